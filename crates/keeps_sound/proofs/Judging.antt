-- The normal form of an item is judged as the item is: what is judged are its numbers, its letters and its contents.
-- Assumes nothing.
use Rattle.std.proofs.Common.{Ok, Err, Some}
use mathlib.Core.Path.{◌≡◌, refl, sym, ap, ◌∙◌, subst}
use mathlib.Core.Bool.{Bool, true, false, not, cond, ◌&&◌, ◌||◌}
use mathlib.Core.List.{List, [], ◌∷◌, ◌++◌, append-nil}
use Prim.Native.Nat.{ℕ, ◌+◌, ◌-◌}
use native.Mathlib.Omega.{arith}
use lib.Dec.{T, eqb}
use lib.ListN.{length, get_or, take, drop, length-append}
use lib.Seq.{take-append_seam}
use Rattle.kinds.specs.Bytes.{all_in}
use Rattle.kinds.specs.declared.Kind.{Kind}
use Rattle.kinds.specs.declared.Kind.TheVariants.{Shown}
use Rattle.kinds.specs.Fit.{in_class, fit_length}
use Rattle.elements.specs.declared.What.{What}
use Rattle.elements.specs.declared.What.TheVariants.{Text as Quote, Variable as VariableOf, Counter as CounterOf, Stamped as StampOf}
use Rattle.formats.specs.Formats.{format_of}
use Rattle.stamps.specs.Always.{stamp_length, stamp_good}
use Rattle.elements.specs.declared.Element.{Element}
use Rattle.kinds.specs.Text.{bytes}
use Rattle.fields.specs.Field.{text_at}
use Rattle.elements.specs.Elements.{elements}
use Rattle.classes.proofs.Laws.{and_T}
use Rattle.declarations.specs.declared.Declared.{Declared}
use Rattle.declarations.specs.Declarations.{length_at, side_at, width_at, variable_declared, counter_declared}
use Rattle.reach.specs.declared.DataFault.TheVariants.{Undeclared as NotDeclared, Past as Reaches}
use Rattle.reach.specs.Answers.{undeclared_by, past_by, some_of, leftmost, data_answer}
use Rattle.summary.specs.Summary.{part_length, fewest, takes_all, least, most, good as goods, judged as fit_always}
use Rattle.row_fields.specs.Reading.{good, fields_from}
use Rattle.grammar.specs.Forms.{Form, forms, row_of, in_order}
use Rattle.grammar.proofs.Rows.{◌&◌, Each, each_row}
use Rattle.heads.specs.Heads.{head_of}
use Rattle.reader.specs.Letters.{field_at}
use Rattle.read.specs.Commands.{read_of}
use Rattle.grammar.specs.declared.Item.{Item}
use Rattle.grammar.specs.declared.Item.TheVariants.{Origin, Variable, Counter, Text, Bars, Box, Frame, Slant, Picture, Format}
use Rattle.grammar.specs.declared.Command.{Command}
use Rattle.grammar.specs.declared.Command.TheVariants.{Item as item, End, Page, Forms, Pictures, Values, Listing, Clock}
use Rattle.row_fields.proofs.Rows.{fields_split}
use Rattle.writing.specs.Writing.{kept, cased}
use Rattle.normal.specs.Written.{what_written, normal}
use Rattle.normal.specs.Contents.{unplaced, pieces, held, held_by, contents_of, head_contents, contents}
use Rattle.normal.proofs.Back.{text-fits}
use Rattle.normal.proofs.Data.{a-text, a-variable, a-counter, a-stamp, Chain, ended, then, chain-of}
use Rattle.normal.specs.Promise.{Normal}
use Rattle.normal.proofs.Round.{item-parted}
use Rattle.recording.specs.declared.Refusal.TheVariants.{Again}
use Rattle.recording.specs.Judged.{of_data, judged_data, judged}
use Rattle.answers.specs.Answers.{number_of}
use Rattle.item_commands.specs.Items.{verdict_answer}

abbrev Piece : Type 0
Piece = What × List ℕ

-- ---- data, judged by its pieces

-- what stands between the quotes of a text as it is written
abbrev inner : List ℕ → List ℕ
inner l = take (length l - 2) (drop 1 l)

inner-quotes : (t : List ℕ) → inner (34 ∷ (t ++ (34 ∷ []))) ≡ t
inner-quotes t =
    let n : length (34 ∷ (t ++ (34 ∷ []))) - 2 ≡ length t = (let z = length-append t (34 ∷ []) in omega arith) in
    ap (λ (k : ℕ). take k (t ++ (34 ∷ []))) n ∙ take-append_seam t (34 ∷ [])

text-inner : (s : List ℕ) (at n e : ℕ) → text_at s at ≡ Ok (n, e) → take (n + 2 - 2) (drop (at + 1) s) ≡ inner (kept s at (n + 2))
text-inner s at n e h =
    let q = text-fits s at n e h in
    let k : n + 2 - 2 ≡ n = omega arith in
    ap (λ (m : ℕ). take m (drop (at + 1) s)) k ∙ q.inner ∙ sym (ap inner q.whole ∙ inner-quotes q.text)

abbrev least_what : Declared → List ℕ → What → ℕ
least_what d w Quote = length (inner w)
least_what d w (VariableOf k p) = part_length p (fewest (side_at d k) (length_at d k))
least_what d w (CounterOf k p) = part_length p (width_at d k)
least_what d w (StampOf st) = stamp_length st (format_of d.formats st)

abbrev most_what : Declared → List ℕ → What → ℕ
most_what d w Quote = length (inner w)
most_what d w (VariableOf k p) = part_length p (length_at d k)
most_what d w (CounterOf k p) = part_length p (width_at d k)
most_what d w (StampOf st) = stamp_length st (format_of d.formats st)

abbrev good_what : Kind → Declared → List ℕ → What → Bool
good_what c d w Quote = all_in (in_class c) (inner w)
good_what c d w (VariableOf k p) = takes_all c || (eqb (side_at d k) 90 || eqb (part_length p (length_at d k)) 0)
good_what c d w (CounterOf k p) = true
good_what c d w (StampOf st) = stamp_good c st (format_of d.formats st)

abbrev least_by : Declared → List Piece → ℕ
least_by d [] = 0
least_by d (x ∷ xs) = least_what d x.1 x.0 + least_by d xs

abbrev most_by : Declared → List Piece → ℕ
most_by d [] = 0
most_by d (x ∷ xs) = most_what d x.1 x.0 + most_by d xs

abbrev good_by : Kind → Declared → List Piece → Bool
good_by c d [] = true
good_by c d (x ∷ xs) = good_what c d x.1 x.0 && good_by c d xs

abbrev some_by : (What → Bool) → List Piece → Bool
some_by q [] = false
some_by q (x ∷ xs) = q x.0 || some_by q xs

some-pieces : (q : What → Bool) (s : List ℕ) (es : List Element) → some_of q es ≡ some_by q (pieces s es)
unfolding pieces
some-pieces q s [] = refl
some-pieces q s (e ∷ es) = ap (λ (b : Bool). q e.what || b) (some-pieces q s es)

least-pieces : (d : Declared) {s : List ℕ} {at : ℕ} {es : List Element} → Chain s at es → least s d es ≡ least_by d (pieces s es)
unfolding pieces what_written
least-pieces d (ended h) = refl
least-pieces d {s} {at} (then (a-text n e h) c) = omega (arith, ap length (text-inner s at n e h), least-pieces d c)
least-pieces d {s} {at} (then (a-variable k p n h f) c) = omega (arith, least-pieces d c)
least-pieces d {s} {at} (then (a-counter k p n h f) c) = omega (arith, least-pieces d c)
least-pieces d {s} {at} (then (a-stamp st) c) = omega (arith, least-pieces d c)

most-pieces : (d : Declared) {s : List ℕ} {at : ℕ} {es : List Element} → Chain s at es → most s d es ≡ most_by d (pieces s es)
unfolding pieces what_written
most-pieces d (ended h) = refl
most-pieces d {s} {at} (then (a-text n e h) c) = omega (arith, ap length (text-inner s at n e h), most-pieces d c)
most-pieces d {s} {at} (then (a-variable k p n h f) c) = omega (arith, most-pieces d c)
most-pieces d {s} {at} (then (a-counter k p n h f) c) = omega (arith, most-pieces d c)
most-pieces d {s} {at} (then (a-stamp st) c) = omega (arith, most-pieces d c)

good-pieces : (t : Kind) (d : Declared) {s : List ℕ} {at : ℕ} {es : List Element} → Chain s at es → goods t s d es ≡ good_by t d (pieces s es)
unfolding pieces what_written
good-pieces t d (ended h) = refl
good-pieces t d {s} {at} (then (a-text n e h) c) = rw (text-inner s at n e h, good-pieces t d c)
good-pieces t d {s} {at} (then (a-variable k p n h f) c) = rw (good-pieces t d c)
good-pieces t d {s} {at} (then (a-counter k p n h f) c) = good-pieces t d c
good-pieces t d {s} {at} (then (a-stamp st) c) = rw (good-pieces t d c)

-- the number that data is answered with
abbrev judged_by : Declared → List Piece → Kind → ℕ
judged_by d xs t =
    cond (some_by (undeclared_by d) xs) 13
    (cond (some_by (past_by d) xs) 14 (cond (fit_length t (least_by d xs) && (fit_length t (most_by d xs) && good_by t d xs)) 0 15))

data-number :
    (at m n : ℕ) (u p f : Bool) → number_of (verdict_answer (of_data at (cond u (Err (NotDeclared m)) (cond p (Err (Reaches n)) (Ok tt))) f)) ≡ cond u 13 (cond p 14 (cond f 0 15))
unfolding number_of
data-number at m n true p f = refl
data-number at m n false true f = refl
data-number at m n false false true = refl
data-number at m n false false false = refl

judged-data :
    (d : Declared) (s : List ℕ) (at : ℕ) (t : Kind) → Chain s at (elements s at) →
    number_of (verdict_answer (judged_data d s at t)) ≡ judged_by d (pieces s (elements s at)) t
unfolding data_answer fit_always
judged-data d s at t c =
    data-number at (leftmost (undeclared_by d) (elements s at)) (leftmost (past_by d) (elements s at)) (some_of (undeclared_by d) (elements s at))
    (some_of (past_by d) (elements s at))
    (fit_always s d (elements s at) t)
    ∙ rw (some-pieces (undeclared_by d) s (elements s at), some-pieces (past_by d) s (elements s at), least-pieces d c, most-pieces d c, good-pieces t d c)

-- ---- the contents of a line that shows data are its elements

unfoldable pub Tells : List ℕ → Item → Type 0
Tells s (Origin o) = Unit {0}
Tells s (Variable v) = Unit {0}
Tells s (Counter c) = Unit {0}
Tells s (Text t) = (contents s ≡ pieces s (elements s t.at)) × Chain s t.at (elements s t.at)
Tells s (Bars b) = (contents s ≡ pieces s (elements s b.at)) × Chain s b.at (elements s b.at)
Tells s (Box r) = Unit {0}
Tells s (Frame f) = Unit {0}
Tells s (Slant l) = Unit {0}
Tells s (Picture p) = Unit {0}
Tells s (Format f) = Unit {0}

-- fields that hold nothing
abbrev silent : ℕ → Bool
silent f = not ((eqb f 116 || eqb f 117) || ((eqb f 97 || eqb f 122) || eqb f 100))

unfoldable all_silent : List ℕ → Bool
all_silent [] = true
all_silent (f ∷ fs) = silent f && all_silent fs

held_none : (f : ℕ) (s : List ℕ) (v p : ℕ) → T (silent f) → held f s v p ≡ []
unfolding held
held_none f s v p h = go (eqb f 116 || eqb f 117) (eqb f 97 || eqb f 122) (eqb f 100) h
  where
    go : (a b c : Bool) → T (not (a || (b || c)))
        → cond a ((Quote, cased false (kept s (p + 1) v)) ∷ [])
        (cond b ((Quote, cased true (kept s (p + 1) v)) ∷ []) (cond c (pieces s (elements s p)) []))
        ≡ []
    go true b c h = absurd h
    go false true c h = absurd h
    go false false true h = absurd h
    go false false false h = refl

-- data at the end of a form
abbrev Ends : List ℕ → List ℕ → List ℕ → List ℕ → Type 0
Ends fs s vs ps =
    (held_by (fs ++ (100 ∷ [])) s vs ps ≡ pieces s (elements s (get_or ps (length fs) 0))) × Chain s (get_or ps (length fs) 0) (elements s (get_or ps (length fs) 0))

ends-step : (f : ℕ) (fs s : List ℕ) (v at : ℕ) (vs ps ws qs : List ℕ) → ws ≡ v ∷ vs → qs ≡ at ∷ ps → T (silent f) → Ends fs s vs ps → Ends (f ∷ fs) s ws qs
unfolding held_by
ends-step f fs s v at vs ps ws qs a b n r = rw (a, b, held_none f s v at n) r

last-data : (fs s : List ℕ) (at : ℕ) (vs ps : List ℕ) → T (all_silent fs) → fields_from (fs ++ (100 ∷ [])) s at ≡ good vs ps → Ends fs s vs ps
unfolding all_silent held_by
last-data [] s at vs ps t h =
    let x = fields_split 100 [] s at vs ps h in
    (unfold held in append-nil (pieces s (elements s (get_or ps 0 0))), rw x.places (chain-of s at x.v x.e (unfold field_at in x.first)))
last-data (f ∷ fs) s at vs ps t h =
    let x = fields_split f (fs ++ (100 ∷ [])) s at vs ps h in
    let n = and_T (silent f) (all_silent fs) t in
    ends-step f fs s x.v at x.vs x.ps vs ps x.values x.places n.0 (last-data fs s x.e x.vs x.ps n.1 x.others)

contents-is : (s : List ℕ) (row : ℕ) (vs ps : List ℕ) → head_of s ≡ Some row → fields_from (row_of row).fields s 0 ≡ good vs ps
    → contents s ≡ held_by (row_of row).fields s vs ps
unfolding head_contents contents_of
contents-is s row vs ps h k = rw (h, k)

-- what reading a row's fields tells of the item that they make, for each row
abbrev TellsLine : List ℕ → Command → Type 0
TellsLine s (item i) = Tells s i
TellsLine s End = Unit {0}
TellsLine s (Page c) = Unit {0}
TellsLine s (Forms c) = Unit {0}
TellsLine s (Pictures c) = Unit {0}
TellsLine s (Values c) = Unit {0}
TellsLine s (Listing c) = Unit {0}
TellsLine s (Clock c) = Unit {0}

Telling : ℕ → Form → Type 0
Telling k f =
    (s vs ps : List ℕ) → fields_from f.fields s 0 ≡ good vs ps → contents s ≡ held_by f.fields s vs ps
    → TellsLine s (f.makes s (λ i. get_or (in_order f.fields 0 vs) i 0) (λ i. get_or (in_order f.fields 0 ps) i 0))

telling : Each Telling forms
unfolding Telling Tells all_silent in_order
telling =
    (λ s vs ps k c. tt)
    & (λ s vs ps k c. tt)
    & (λ s vs ps k c. tt)
    & (λ s vs ps k c. tt)
    & (λ s vs ps k c. tt)
    & (λ s vs ps k c. tt)
    & (λ s vs ps k c. tt)
    & (λ s vs ps k c. tt)
    & (λ s vs ps k c. tt)
    & (λ s vs ps k c. (let r = last-data (bytes "An,n,n,n,n,m,") s 0 vs ps tt k in (c ∙ r.0, r.1)))
    & (λ s vs ps k c. (let r = last-data (bytes "Bn,n,n,k,n,w,n,h,") s 0 vs ps tt k in (c ∙ r.0, r.1)))
    & (λ s vs ps k c. tt)
    & (λ s vs ps k c. tt)
    & (λ s vs ps k c. tt)
    & (λ s vs ps k c. tt)
    & (λ s vs ps k c. tt)
    & (λ s vs ps k c. tt)
    & (λ s vs ps k c. tt)
    & (λ s vs ps k c. tt)
    & (λ s vs ps k c. tt)
    & (λ s vs ps k c. tt)
    & (λ s vs ps k c. tt)
    & (λ s vs ps k c. tt)
    & (λ s vs ps k c. tt)
    & (λ s vs ps k c. tt)
    & (λ s vs ps k c. tt)
    & (λ s vs ps k c. tt)
    & (λ s vs ps k c. tt)
    & (λ s vs ps k c. tt)
    & (λ s vs ps k c. tt)
    & (λ s vs ps k c. tt)
    & (λ s vs ps k c. tt)
    & (λ s vs ps k c. tt)
    & (λ s vs ps k c. tt)
    & (λ j s vs ps k c. tt)

pub item-tells : (rows : ℕ) (s : List ℕ) (i : Item) → read_of rows s ≡ Ok (item i) → Tells s i
unfolding Telling
item-tells rows s i h =
    let p = item-parted rows s i h in
    subst (TellsLine s) p.command (each_row Telling telling p.row s p.vs p.ps p.read (contents-is s p.row p.vs p.ps p.head p.read))

-- ---- an item, judged by what it says

abbrev judged_item : Declared → List Piece → Item → ℕ
judged_item d xs (Origin o) = 0
judged_item d xs (Variable v) = cond (variable_declared d v.n) 12 0
judged_item d xs (Counter c) = cond (counter_declared d c.n) 12 0
judged_item d xs (Text t) = judged_by d xs Shown
judged_item d xs (Bars b) = judged_by d xs b.kind
judged_item d xs (Box r) = 0
judged_item d xs (Frame f) = 0
judged_item d xs (Slant l) = 0
judged_item d xs (Picture p) = 0
judged_item d xs (Format f) = 0

again-number : (b : Bool) (p : ℕ) → number_of (verdict_answer (cond b (Err (Again p)) (Ok tt))) ≡ cond b 12 0
unfolding number_of
again-number true p = refl
again-number false p = refl

judged-item : (d : Declared) (s : List ℕ) (i : Item) → Tells s i → number_of (verdict_answer (judged d s i)) ≡ judged_item d (contents s) (unplaced i)
unfolding judged Tells number_of
judged-item d s (Origin o) h = refl
judged-item d s (Variable v) h = again-number (variable_declared d v.n) _
judged-item d s (Counter c) h = again-number (counter_declared d c.n) _
judged-item d s (Text t) h = judged-data d s t.at Shown h.1 ∙ sym (ap (λ (xs : List Piece). judged_by d xs Shown) h.0)
judged-item d s (Bars b) h = judged-data d s b.at b.kind h.1 ∙ sym (ap (λ (xs : List Piece). judged_by d xs b.kind) h.0)
judged-item d s (Box r) h = refl
judged-item d s (Frame f) h = refl
judged-item d s (Slant l) h = refl
judged-item d s (Picture p) h = refl
judged-item d s (Format f) h = refl

-- THE NORMAL FORM IS JUDGED AS THE LINE IS: by the same number. The place may be another, where zeros in front of a number are dropped
pub normal-judged : (rows : ℕ) (d : Declared) (s : List ℕ) (i : Item) → read_of rows s ≡ Ok (item i) → (n : Normal rows s i)
    → number_of (verdict_answer (judged d (normal s) n.back)) ≡ number_of (verdict_answer (judged d s i))
normal-judged rows d s i h n =
    judged-item d (normal s) n.back (item-tells rows (normal s) n.back n.read)
    ∙ (λ t. judged_item d (n.content t) (n.same t))
    ∙ sym (judged-item d s i (item-tells rows s i h))
