-- How a call answers where lengths, font and soundness are in order: these rows are shown, not computed.
-- Assumes nothing.
use native.Mathlib.Omega.{arith}
use Prim.Native.Nat.{ℕ, zero, suc, ◌+◌, ◌*◌, ◌/◌, ◌%◌, ◌≤◌}
use mathlib.Core.Path.{◌≡◌, refl, ap, ◌∙◌}
use mathlib.Core.Bool.{Bool, true, false, ◌&&◌, ◌||◌, not, cond}
use mathlib.Core.List.{List, [], ◌∷◌, ◌++◌}
use lib.ListN.{length, take, drop, replicate}
use lib.Seq.{drop-append-add}
use lib.Dec.{eqb, leb, ltb}
use Rattle.cells.specs.Cell.{cell}
use Rattle.cells.specs.Count.{all_zero}
use Rattle.cells.proofs.Counts.{all_of}
use Rattle.dots.specs.declared.Ink.TheVariants.{Black}
use Rattle.dots.specs.Dots.{within, rows, byte_drawn, redrawn_from, redrawn, drawn, cut, box}
use Rattle.pages.specs.Pages.{white, black_in, black_dots}
use Rattle.outside.proofs.WhiteOutside.{white-outside-white}
use Rattle.font.specs.Rules.{legal}
use Rattle.store.specs.Chain.{is_free, portion}
use Rattle.store_sound.specs.Sound.{lent_ok, kinds_ok, names_ok, uniques_ok, singles_ok, chains_ok, empties_ok, free_ok, frees_ok, tails_ok, store_sound}
use Rattle.free_number.specs.Number.{free_number}
use Rattle.sound.specs.Sound.{numbers_ok, times_ok, background_ok, active_bytes, sound}
use Rattle.content_check.specs.Contents.{contents_ok}
use Rattle.activity_check.specs.Activity.{activity_sound}
use Rattle.front.specs.Front.{front_of}
use Rattle.session.specs.declared.Session.{Session}
use Rattle.answers.specs.declared.Answer.{Answer}
use Rattle.answers.specs.declared.Answer.TheVariants.{Taken}
use Rattle.answers.specs.Answers.{number_of, is_taken, answer_of}
use Rattle.lent.specs.Lent.{World, rows_of, wrong_lent}
use Rattle.calls.specs.Outcomes.{After, Drawn, drawn_by, labelled}
use Rattle.calls.specs.Table.{command_table, label_table}
use Rattle.unread.specs.Front.{read_by}
use Rattle.calls.specs.Station.{does_front, lists_front, accepted, refused, commanded, label_page, label_session, labelled_by}
use Rattle.ground.proofs.Tests.{and_left, and_right, and_both, not-below}
use Rattle.cases.specs.Calls.{Stand, stand, start, font, output, calls, after_call, labels, after_label}

-- ---- soundness, clause by clause

pub sound-from : (s : Session) (w : World) → numbers_ok (rows_of w) s ≡ true → times_ok s.clock s.formats ≡ true → background_ok s.width s.length w.background ≡ true
    → store_sound w.store w.links w.directory ≡ true → free_number w.links w.directory s.free ≡ true → contents_ok w.store w.links w.directory ≡ true
    → activity_sound s w.directory (active_bytes w.store w.links w.directory s.active) w.values ≡ true
    → sound s w ≡ true
unfolding sound
sound-from s w a t b c d e f = rw (a, t, b, c, d, e, f)

pub store-from : (st ls dir : List ℕ) → lent_ok st ls dir ≡ true → kinds_ok dir ≡ true → names_ok dir ≡ true → uniques_ok dir ≡ true → singles_ok dir ≡ true
    → chains_ok ls dir ≡ true → empties_ok dir ≡ true → frees_ok st ls ≡ true → tails_ok st ls dir ≡ true
    → store_sound st ls dir ≡ true
unfolding store_sound
store-from st ls dir a b c d e f g h i = rw (a, b, c, d, e, f, g, h, i)

pub background : (width length n : ℕ) → background_ok width length (replicate n 0) ≡ true
unfolding background_ok white
background width length n = white-outside-white width length n

-- ---- a store of zeros behind its first portion has free portions of zeros

zeros-drop : (k n : ℕ) → all_zero (drop k (replicate n 0)) ≡ true
zeros-drop zero zero = refl
zeros-drop zero (suc n) = zeros-drop zero n
zeros-drop (suc k) zero = refl
zeros-drop (suc k) (suc n) = zeros-drop k n

zeros-take : (m : ℕ) (l : List ℕ) → all_zero l ≡ true → all_zero (take m l) ≡ true
zeros-take zero l h = refl
zeros-take (suc m) [] h = refl
zeros-take (suc m) (x ∷ xs) h = and_both (eqb x 0) (all_zero (take m xs)) (and_left (eqb x 0) (all_zero xs) h) (zeros-take m xs (and_right (eqb x 0) (all_zero xs) h))

or-true : (b c : Bool) → c ≡ true → (b || c) ≡ true
or-true true c e = refl
or-true false c e = e

behind : (a : List ℕ) (n p : ℕ) → length a ≡ 256 → all_zero (portion (a ++ replicate n 0) (suc p)) ≡ true
unfolding cell
behind a n p e =
    let k : suc p * 256 ≡ length a + p * 256 = omega (arith, e) in
    let d : drop (suc p * 256) (a ++ replicate n 0) ≡ drop (p * 256) (replicate n 0) =
    ap (λ (i : ℕ). drop i (a ++ replicate n 0)) k ∙ drop-append-add a (replicate n 0) (p * 256) in
    ap (λ (l : List ℕ). all_zero (take 256 l)) d ∙ zeros-take 256 (drop (p * 256) (replicate n 0)) (zeros-drop (p * 256) n)

each : (a : List ℕ) (n : ℕ) (ls : List ℕ) → length a ≡ 256 → free_ok (a ++ replicate n 0) ls 0 ≡ true → (q : ℕ) → free_ok (a ++ replicate n 0) ls q ≡ true
each a n ls e f zero = f
each a n ls e f (suc p) = or-true (not (is_free ls (suc p))) (all_zero (portion (a ++ replicate n 0) (suc p))) (behind a n p e)

pub frees : (a : List ℕ) (n : ℕ) (ls : List ℕ) → length a ≡ 256 → free_ok (a ++ replicate n 0) ls 0 ≡ true → frees_ok (a ++ replicate n 0) ls ≡ true
unfolding frees_ok
frees a n ls e f = all_of (free_ok (a ++ replicate n 0) ls) (length ls) (λ q b. each a n ls e f q)

-- ---- what is drawn in the first two rows of a white page leaves the rest white

apart : (f : ℕ → ℕ → Bool → Bool) (n i : ℕ) (p q : List ℕ) → redrawn_from f n i (p ++ q) ≡ redrawn_from f n i p ++ redrawn_from f n (i + length p) q
apart f n i [] q = ap (λ (k : ℕ). redrawn_from f n k q) (omega arith)
apart f n i (b ∷ p) q =
    ap (λ (l : List ℕ). cond (ltb i n) (byte_drawn f i b) b ∷ l)
    (apart f n (suc i) p q ∙ ap (λ (k : ℕ). redrawn_from f n (suc i) p ++ redrawn_from f n k q) (omega arith))

either : (b : Bool) (x : ℕ) → x ≡ 0 → cond b x 0 ≡ 0
either true x e = e
either false x e = refl

stays : (f : ℕ → ℕ → Bool → Bool) (n i m : ℕ) → ((x y : ℕ) → 2 ≤ y → f x y false ≡ false) → 152 ≤ i → redrawn_from f n i (replicate m 0) ≡ replicate m 0
stays f n i zero h b = refl
stays f n i (suc m) h b =
    let y : 2 ≤ i / 76 = omega arith in
    let z : byte_drawn f i 0 ≡ 0 =
    rw (h (i % 76 * 8 + 0) (i / 76) y, h (i % 76 * 8 + 1) (i / 76) y, h (i % 76 * 8 + 2) (i / 76) y, h (i % 76 * 8 + 3) (i / 76) y, h (i % 76 * 8 + 4) (i / 76) y, h (i % 76 * 8 + 5) (i / 76) y, h (i % 76 * 8 + 6) (i / 76) y, h (i % 76 * 8 + 7) (i / 76) y) in
    ap (λ (l : List ℕ). cond (ltb i n) (byte_drawn f i 0) 0 ∷ l) (stays f n (suc i) m h (omega arith))
    ∙ ap (λ (x : ℕ). x ∷ replicate m 0) (either (ltb i n) (byte_drawn f i 0) z)

pub two-rows : (shape : ℕ → ℕ → Bool) (m : ℕ) → ((x y : ℕ) → 2 ≤ y → shape x y ≡ false)
    → drawn Black shape (replicate 152 0 ++ replicate m 0)
    ≡ redrawn_from (λ x y o. cond (shape x y) true o) (rows (replicate 152 0 ++ replicate m 0) * 76) 0 (replicate 152 0) ++ replicate m 0
unfolding drawn redrawn
two-rows shape m h =
    let f : (ℕ → ℕ → Bool → Bool) = λ x y o. cond (shape x y) true o in
    let n : ℕ = rows (replicate 152 0 ++ replicate m 0) * 76 in
    apart f n 0 (replicate 152 0) (replicate m 0)
    ∙ ap (λ (l : List ℕ). redrawn_from f n 0 (replicate 152 0) ++ l) (stays f n 152 m (λ x y b. ap (λ (c : Bool). cond c true false) (h x y b)) (omega arith))

no : (b : Bool) → (b && false) ≡ false
no true = refl
no false = refl

pub no_more : (width length x0 x1 x y : ℕ) → 2 ≤ y → cut width length (box x0 0 x1 2) x y ≡ false
no_more width length x0 x1 x y b =
    rw (not-below y 2 b, no (leb 0 y), no (within x0 x1 x), no (ltb x width && ltb y length))

-- white bytes add no black dot
whites : (m : ℕ) → black_dots (replicate m 0) ≡ 0
unfolding black_dots
whites zero = refl
whites (suc m) = ap (λ (k : ℕ). 0 + k) (whites m)

pub black-front : (a : List ℕ) (m : ℕ) → black_dots (a ++ replicate m 0) ≡ black_dots a
unfolding black_dots
black-front [] m = whites m
black-front (b ∷ a) m = ap (λ (k : ℕ). black_in b + k) (black-front a m)

-- ---- the rows 1, 2 and 3 of a call do not apply, and those behind them decide

past_three : (s : Session) (w : World) (room : ℕ) (input : List ℕ) → wrong_lent w ≡ false → legal font ≡ true → sound s w ≡ true
    → answer_of (command_table s font w room input) ≡ answer_of (drop 3 (command_table s font w room input))
unfolding command_table answer_of
past_three s w room input a b c = rw (a, b, c)

-- a call whose answer is known
pub answered : (s : Session) (w : World) (input : List ℕ) (a : Answer) → wrong_lent w ≡ false → legal font ≡ true → sound s w ≡ true
    → answer_of (drop 3 (command_table s font w (length output) input)) ≡ a
    → commanded s font w output input
    ≡ cond (is_taken a) (accepted (read_by a input) (does_front font w s input (front_of input)) (lists_front w input (front_of input)) output) (refused a (read_by a input) s w output)
unfolding commanded
answered s w input a l f g e =
    ap (λ (b : Answer). cond (is_taken b) (accepted (read_by b input) (does_front font w s input (front_of input)) (lists_front w input (front_of input)) output) (refused b (read_by b input) s w output))
    (past_three s w (length output) input l f g ∙ e)

-- a label call on an owed label
pub labels-taken : (s : Session) (w : World) (page : List ℕ) → (wrong_lent w || not (eqb (length page) (length w.background))) ≡ false → legal font ≡ true → sound s w ≡ true
    → eqb s.owed 0 ≡ false
    → labelled_by s font w page ≡ drawn_by (labelled Taken (label_session s w)) (label_page font s w)
unfolding labelled_by label_table answer_of is_taken number_of
labels-taken s w page l f g o = rw (l, f, g, o)

-- ---- one call after another

pub call-on : (n : ℕ) (input : List ℕ) (t : Stand) (a : After) → commanded t.session font t.world output input ≡ a
    → calls (suc n) input t ≡ calls n (drop a.outcome.read input) (after_call t a)
call-on n input t a e = ap (λ (b : After). calls n (drop b.outcome.read input) (after_call t b)) e

pub label-on : (n : ℕ) (t : Stand) (d : Drawn) → labelled_by t.session font t.world t.page ≡ d → labels (suc n) t ≡ labels n (after_label t d)
label-on n t d e = ap (λ (b : Drawn). labels n (after_label t b)) e

-- the answer of one call after opening
pub answer-of : (s : Session) (w : World) (page input : List ℕ) (a : After) → start ≡ stand s w page [] [] [] → commanded s font w output input ≡ a
    → (calls 1 input start).answers ≡ number_of a.outcome.answer ∷ []
answer-of s w page input a e f = ap (λ (t : Stand). (calls 1 input t).answers) e ∙ ap (λ (b : After). number_of b.outcome.answer ∷ []) f
