-- The first byte that each field of a row is written with. By it a field is told from what follows, and the letters of a written line name its row.
use Rattle.std.specs.Prelude.{Ok}
use mathlib.Core.Path.{◌≡◌, ◌∙◌, refl, ap}
use mathlib.Core.Bool.{Bool, true, false, cond, ◌&&◌, ◌||◌, false≢true, and-false}
use mathlib.Core.List.{List, [], ◌∷◌, ◌++◌}
use Prim.Native.Nat.{ℕ, suc, ◌+◌, ◌-◌, ◌≤◌, ◌<◌}
use Prim.Native.Char.{code}
use native.Mathlib.Omega.{arith}
use native.Mathlib.Decide.{ℕ_discrete, dec_lt}
use lib.Dec.{T, ltb, eqb}
use lib.ListN.{length, get_or, drop}
use lib.Seq.{drop-cons}
use borrow.Author.Tests.{eq-eqb, ne_eqb, lt-leb}
use Rattle.kinds.specs.Bytes.{between}
use Rattle.kinds.specs.Text.{bytes}
use Rattle.classes.specs.Bytes.{in_class}
use Rattle.classes.specs.declared.Class.TheVariants.{Digit, Mode, Side}
use Rattle.classes.proofs.Laws.{and_T}
use Rattle.fields.specs.Field.{text_at}
use Rattle.writing.specs.Number.{nought}
use Rattle.elements.specs.Elements.{elements}
use Rattle.elements.specs.declared.Element.{Element}
use Rattle.formats.specs.declared.Stamp.TheVariants.{Date, Time}
use Rattle.formats.specs.Formats.{unit, new_unit}
use Rattle.read.specs.Reading.{letter, year_field, month_field, day_field, date_field, time_field}
use Rattle.row_fields.specs.Letters.{field_at}
use Rattle.row_fields.specs.Reading.{fields_from, good}
use Rattle.row_fields.proofs.Rows.{fields_split}
use Rattle.writing.specs.Writing.{digit_byte, decimal, signed, kept, cased}
use Rattle.normal.specs.Written.{part_written, what_written, data_written, word_written, written_field, written_from}
use Rattle.writing.proofs.Writes.{cased_kept, digits_last}
use Rattle.normal.proofs.Back.{all_in, T_true, holds_at, number_fits, digits-class, digits-count, letter-fits, text-fits, format-fits, cased-quotes}
use Rattle.normal.proofs.Data.{a-text as is-text, a-variable as is-variable, a-counter as is-counter, a-stamp as is-stamp, Chain, ended, then, chain-of, data-inside}
use Rattle.normal.proofs.Fields.{Letter, letter-of, a-number, a-wide, a-day, a-step, a-prompt, a-text, a-name, a-star, a-mode, a-side, a-type, a_word, some-data, a-date, a-time, itself, Plain, plain-written, TypeFits, one, two, three, ean, type-fits, Word, nothing, left, centre, right, word_fits, place_ahead, place_last}

-- ---- the bytes that may stand first, by the letters of the grammar

-- in a field of the letter f. A piece that may be absent would have those of its own and then `next`, those that may stand first behind it
abbrev pub starts_of : ℕ → List ℕ → List ℕ
starts_of f next =
    cond (eqb f (code "n") || (eqb f (code "w") || eqb f (code "y"))) (bytes "0123456789")
    (cond (eqb f (code "s")) (bytes "+-")
    (cond (eqb f (code "t") || (eqb f (code "u") || (eqb f (code "a") || eqb f (code "z")))) (bytes "\"")
    (cond (eqb f (code "m")) (bytes "NR")
    (cond (eqb f (code "j")) (bytes "LRCNZ")
    (cond (eqb f (code "k")) (bytes "123E")
    (cond (eqb f (code "h")) (bytes "NB")
    (cond (eqb f (code "d")) (bytes "\"VCT")
    (cond (eqb f (code "f")) (bytes "YyMmDd")
    (cond (eqb f (code "g")) (bytes "HhMmSs")
    (f ∷ []))))))))))

-- in the fields of a form; past the last stands nothing
unfoldable pub starts : List ℕ → List ℕ
starts [] = 0 ∷ []
starts (f ∷ fs) = starts_of f (starts fs)

abbrev pub among : ℕ → List ℕ → Bool
among x [] = false
among x (y ∷ ys) = eqb x y || among x ys

abbrev pub every : (ℕ → Bool) → List ℕ → Bool
every p [] = true
every p (y ∷ ys) = p y && every p ys

pub every-among : (p : ℕ → Bool) (x : ℕ) (ys : List ℕ) → T (every p ys) → T (among x ys) → T (p x)
every-among p x [] h k = absurd k
every-among p x (y ∷ ys) h k = go (ℕ_discrete x y) k (every-among p x ys (and_T (p y) (every p ys) h).1)
  where
    go : Dec (x ≡ y) → T (eqb x y || among x ys) → (T (among x ys) → T (p x)) → T (p x)
    go (yes e) l r = rw e (and_T (p y) (every p ys) h).0
    go (no n) l r = r (rw (ne_eqb x y n) at l)

-- ---- letter by letter

-- the first byte of a number
digit-bounds : (x : ℕ) → in_class Digit x ≡ true → (code "0" ≤ x) × (x < code "0" + 10)
unfolding between
digit-bounds x h = go (dec_lt x (code "0")) (dec_lt (code "9") x)
  where
    go : Dec (x < code "0") → Dec (code "9" < x) → (code "0" ≤ x) × (x < code "0" + 10)
    go (yes a) b = absurd (false≢true ((let e : false ≡ in_class Digit x = simp (lt-leb 48 x a) in e) ∙ h))
    go (no a) (yes b) = absurd (false≢true ((let e : false ≡ in_class Digit x = simp (lt-leb x 57 b, and-false) in e) ∙ h))
    go (no a) (no b) = (omega arith, omega arith)

digit-starts : (x : ℕ) → in_class Digit x ≡ true → T (among x (bytes "0123456789"))
digit-starts x h =
    let b = digit-bounds x h in
    holds_at (λ (y : ℕ). among y (bytes "0123456789")) 10 (code "0") x tt b.0 b.1

front-digit : (l rest : List ℕ) → T (all_in Digit l) → 0 < length l → T (among (get_or (l ++ rest) 0 0) (bytes "0123456789"))
unfolding all_in
front-digit [] rest h k = absurd (omega arith)
front-digit (x ∷ xs) rest h k = digit-starts x (T_true (in_class Digit x) (and_T (in_class Digit x) (all_in Digit xs) h).0)

number-starts : (v : ℕ) (rest : List ℕ) → v < nought → T (among (get_or (decimal v ++ rest) 0 0) (bytes "0123456789"))
number-starts v rest h =
    front-digit (decimal v) rest (digits-class 19 v [] (omega arith) (unfold all_in in tt)) (digits-count 19 8 v [] h).0

step-starts : (v : ℕ) (rest : List ℕ) → T (among (get_or (signed v ++ rest) 0 0) (bytes "+-"))
unfolding signed
step-starts v rest = go (ltb v nought)
  where
    go : (t : Bool) → T (among (get_or (cond t (code "-" ∷ decimal (nought - v)) (code "+" ∷ decimal (v - nought)) ++ rest) 0 0) (bytes "+-"))
    go true = tt
    go false = tt

text-starts : (b : Bool) (s : List ℕ) (at v e : ℕ) (rest : List ℕ) → text_at s at ≡ Ok (v, e)
    → T (among (get_or (cased b (kept s at (v + 2)) ++ rest) 0 0) (bytes "\""))
text-starts b s at v e rest h = let q = text-fits s at v e h in rw (q.whole, cased-quotes b q.text) tt

letter-starts : (s : List ℕ) (at v : ℕ) (rest ls : List ℕ) → kept s at 1 ≡ v ∷ [] → T (among v ls)
    → T (among (get_or (cased false (kept s at 1) ++ rest) 0 0) ls)
letter-starts s at v rest ls k h = rw (cased_kept (kept s at 1), k) h

mode-among : (v : ℕ) → in_class Mode v ≡ true → T (among v (bytes "NR"))
mode-among v h = go (eqb v (code "N")) (eqb v (code "R")) h
  where
    go : (a b : Bool) → (a || b) ≡ true → T (a || (b || false))
    go true b k = tt
    go false true k = tt
    go false false k = absurd (false≢true k)

side-among : (v : ℕ) → in_class Side v ≡ true → T (among v (bytes "LRCNZ"))
side-among v h = go (eqb v (code "L")) (eqb v (code "R")) (eqb v (code "C")) (eqb v (code "N")) (eqb v (code "Z")) h
  where
    go : (a b c d e : Bool) → (a || (b || (c || (d || e)))) ≡ true → T (a || (b || (c || (d || (e || false)))))
    go true b c d e k = tt
    go false true c d e k = tt
    go false false true d e k = tt
    go false false false true e k = tt
    go false false false false true k = tt
    go false false false false false k = absurd (false≢true k)

type-starts : (s : List ℕ) (at v : ℕ) (rest : List ℕ) → TypeFits s at v
    → T (among (get_or (cased false (kept s at (cond (eqb v 30) 3 1)) ++ rest) 0 0) (bytes "123E"))
type-starts s at v rest (one k) = rw (cased_kept (kept s at 1), k) tt
type-starts s at v rest (two k) = rw (cased_kept (kept s at 1), k) tt
type-starts s at v rest (three k) = rw (cased_kept (kept s at 1), k) tt
type-starts s at v rest (ean k) = rw (cased_kept (kept s at 3), k) tt

word-starts : (v : ℕ) (rest : List ℕ) → Word v → T (among (get_or (word_written v ++ rest) 0 0) (bytes "NB"))
unfolding word_written
word-starts v rest nothing = tt
word-starts v rest left = tt
word-starts v rest centre = tt
word-starts v rest right = tt

data-starts : {s : List ℕ} {at : ℕ} {es : List Element} (rest : List ℕ) → Chain s at es → at < length s
    → T (among (get_or (data_written s es ++ rest) 0 0) (bytes "\"VCT"))
unfolding data_written what_written
data-starts rest (ended h) l = absurd (omega arith)
data-starts {s} {at} rest (then (is-text n d h) c) l = rw (text-fits s at n d h).whole tt
data-starts rest (then (is-variable k p n h f) c) l = tt
data-starts rest (then (is-counter k p n h f) c) l = tt
data-starts rest (then (is-stamp Date) c) l = tt
data-starts rest (then (is-stamp Time) c) l = tt

-- the first letter of a date's field, of a time's
date-among : (a b : ℕ) → new_unit 0 0 (unit Date (date_field a b)) ≡ true → T (among a (bytes "YyMmDd"))
unfolding new_unit unit date_field letter between
date-among a b h =
    go (eqb a (code "Y")) (eqb a (code "y")) (eqb a (code "M")) (eqb a (code "m")) (eqb a (code "D")) (eqb a (code "d")) (year_field b) (month_field b) (day_field b) h
  where
    go : (a b c d e f : Bool) (x y z : ℕ) → new_unit 0 0 (unit Date (cond (a || b) x (cond (c || d) y (cond (e || f) z 0)))) ≡ true
        → T (a || (b || (c || (d || (e || (f || false))))))
    go true b c d e f x y z k = tt
    go false true c d e f x y z k = tt
    go false false true d e f x y z k = tt
    go false false false true e f x y z k = tt
    go false false false false true f x y z k = tt
    go false false false false false true x y z k = tt
    go false false false false false false x y z k = absurd (false≢true k)

time-among : (a : ℕ) → new_unit 0 0 (unit Time (time_field a)) ≡ true → T (among a (bytes "HhMmSs"))
unfolding new_unit unit time_field letter between
time-among a h = go (eqb a (code "H")) (eqb a (code "h")) (eqb a (code "M")) (eqb a (code "m")) (eqb a (code "S")) (eqb a (code "s")) h
  where
    go : (a b c d e f : Bool) → new_unit 0 0 (unit Time (cond (a || b) 1 (cond (c || d) 2 (cond (e || f) 3 0)))) ≡ true
        → T (a || (b || (c || (d || (e || (f || false))))))
    go true b c d e f k = tt
    go false true c d e f k = tt
    go false false true d e f k = tt
    go false false false true e f k = tt
    go false false false false true f k = tt
    go false false false false false true k = tt
    go false false false false false false k = absurd (false≢true k)

-- what stays to the end of the line starts with the byte at its place
rest-starts : (s : List ℕ) (at : ℕ) (rest ls : List ℕ) → at < length s → T (among (get_or s at 0) ls) → T (among (get_or (cased false (drop at s) ++ rest) 0 0) ls)
rest-starts s at rest ls l h = rw (cased_kept (drop at s), drop-cons s at 0 l) h

above-two : (n : ℕ) → eqb (suc (suc (suc n))) 2 ≡ false
above-two n = ne_eqb (suc (suc (suc n))) 2 (λ e. omega (arith, e))

-- behind a comma data is no place, neither with another comma nor at the end: the C of a counter has its digit behind it
pub data-placeless : {s : List ℕ} {at : ℕ} {es : List Element} → Chain s at es → at < length s
    → (place_ahead (code "," ∷ data_written s es) ≡ false) × (place_last (code "," ∷ data_written s es) ≡ false)
unfolding data_written what_written
data-placeless (ended h) l = absurd (omega arith)
data-placeless {s} {at} (then (is-text n d h) c) l = rw (text-fits s at n d h).whole (refl, refl)
data-placeless (then (is-variable k p n h f) c) l = (refl, refl)
data-placeless (then (is-stamp Date) c) l = (refl, refl)
data-placeless (then (is-stamp Time) c) l = (refl, refl)
data-placeless {s} (then {es = es} (is-counter k p n h f) c) l =
    rw (digits_last 19 k [] (omega arith)) (ne_eqb (digit_byte k) (code ",") (λ e. omega arith), above-two (length (part_written p ++ data_written s es)))

plain-starts : {f : ℕ} (p : Plain f) (s : List ℕ) (v q : ℕ) (rest next : List ℕ) → T (among (get_or (written_field f s v q ++ rest) 0 0) (starts_of f next))
plain-starts {f} p s v q rest next =
    let e : starts_of f next ≡ f ∷ [] =
    simp (p.no-n, p.no-w, p.no-y, p.no-s, p.no-t, p.no-u, p.no-a, p.no-z, p.no-m, p.no-j, p.no-k, p.no-h, p.no-d, p.no-f, p.no-g) in
    rw (plain-written p s v q, e, eq-eqb f f refl) tt

pub field-starts : {f : ℕ} (x : Letter f) (s : List ℕ) (at v e : ℕ) (rest next : List ℕ) → field_at f s at ≡ Ok (v, e) → T (among (get_or rest 0 0) next)
    → T (among (get_or (written_field f s v at ++ rest) 0 0) (starts_of f next))
unfolding field_at written_field
field-starts a-number s at v e rest next h k = number-starts v rest (number_fits s at v e h)
field-starts a-wide s at v e rest next h k = number-starts v rest (number_fits s at v e h)
field-starts a-day s at v e rest next h k = number-starts v rest (number_fits s at v e h)
field-starts a-step s at v e rest next h k = step-starts v rest
field-starts a-prompt s at v e rest next h k = text-starts false s at v e rest h
field-starts a-text s at v e rest next h k = text-starts false s at v e rest h
field-starts a-name s at v e rest next h k = text-starts true s at v e rest h
field-starts a-star s at v e rest next h k = text-starts true s at v e rest h
field-starts a-mode s at v e rest next h k = let q = letter-fits Mode s at v e h in letter-starts s at v rest (bytes "NR") q.1 (mode-among v q.0)
field-starts a-side s at v e rest next h k = let q = letter-fits Side s at v e h in letter-starts s at v rest (bytes "LRCNZ") q.1 (side-among v q.0)
field-starts a-type s at v e rest next h k = type-starts s at v rest (type-fits s at v e h)
field-starts a_word s at v e rest next h k = word-starts v rest (word_fits s at v e h).letter
field-starts some-data s at v e rest next h k = data-starts rest (chain-of s at v e h) (data-inside s at v e h).1
field-starts a-date s at v e rest next h k =
    let q = format-fits Date s at v e h in
    rest-starts s at rest (bytes "YyMmDd") (omega arith) (date-among (get_or s at 0) (get_or s (at + 1) 0) q.letters)
field-starts a-time s at v e rest next h k =
    let q = format-fits Time s at v e h in
    rest-starts s at rest (bytes "HhMmSs") (omega arith) (time-among (get_or s at 0) q.letters)
field-starts (itself p) s at v e rest next h k = plain-starts p s v at rest next

-- ---- the fields of a form

-- what is written of a row's first field, and then of the others
pub written-split : (f : ℕ) (fs s ws qs : List ℕ) (v at : ℕ) (vs ps : List ℕ) → ws ≡ v ∷ vs → qs ≡ at ∷ ps
    → written_from (f ∷ fs) s ws qs ≡ written_field f s v at ++ written_from fs s vs ps
unfolding written_from
written-split f fs s ws qs v at vs ps a b = rw (a, b)

pub start_of : (fs s : List ℕ) (at : ℕ) (vs ps : List ℕ) → fields_from fs s at ≡ good vs ps → T (among (get_or (written_from fs s vs ps) 0 0) (starts fs))
unfolding starts
start_of [] s at vs ps h = unfold written_from in tt
start_of (f ∷ fs) s at vs ps h =
    let x = fields_split f fs s at vs ps h in
    let r = start_of fs s x.e x.vs x.ps x.others in
    rw (written-split f fs s vs ps x.v at x.vs x.ps x.values x.places)
    (field-starts (letter-of f) s at x.v x.e (written_from fs s x.vs x.ps) (starts fs) x.first r)
