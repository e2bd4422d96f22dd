-- "A line is up to 255 bytes": the normal form of an item is such a line again. Nothing grows but a step, which is given its sign; and a line with a
-- step is short by its limits.
use Rattle.std.specs.Prelude.{Result, Ok, Err}
use mathlib.Core.Path.{◌≡◌, ◌∙◌, refl, sym}
use mathlib.Core.Bool.{Bool, true, false, cond, ◌&&◌, ◌||◌, not}
use mathlib.Core.List.{List, [], ◌∷◌}
use Prim.Native.Nat.{ℕ, zero, suc, ◌+◌, ◌-◌, ◌*◌, ◌^◌, ◌≤◌, ◌<◌}
use Prim.Native.Char.{code}
use native.Mathlib.Nat.{add-zero, pow-suc}
use native.Mathlib.Omega.{arith}
use native.Mathlib.Decide.{dec_lt}
use lib.Dec.{T, leb, ltb, eqb, lit<}
use lib.ListN.{length, get_or, drop, length-append, length-take, length-drop}
use borrow.Author.Tests.{lt-ltb, le-ltb, leb-true, eqb-true}
use Rattle.kinds.specs.Bytes.{between}
use Rattle.classes.specs.declared.Class.{Class}
use Rattle.classes.specs.declared.Class.TheVariants.{Digit, Mode, Side}
use Rattle.elements.specs.declared.Part.TheVariants.{Whole}
use Rattle.classes.specs.Bytes.{in_class, part, run_at}
use Rattle.writing.specs.Number.{digit_of, value_from, number_at, signed_at, plus, minus, nought, Small}
use Rattle.fields.specs.Field.{text_at, letter_at, type_at, byte_at, pointed}
use Rattle.elements.specs.Elements.{first, last, middle, middle-dot, middle-n, modifier_at, quoted_from, modified, held_at, stamped_from, stamped_at, element_at, after, follow, elements_from, elements}
use Rattle.read.specs.Data.{total, stopped, data_at}
use Rattle.writing.proofs.Laws.{digit-small, value-fits, number_small, signed-found}
use Rattle.fields.proofs.Pairs.{ok_first, ok_second}
use Rattle.fields.proofs.Laws.{letter-found, type-found}
use Rattle.classes.proofs.Laws.{and_T}
use Rattle.formats.specs.declared.Stamp.{Stamp}
use Rattle.formats.specs.declared.Stamp.TheVariants.{Date, Time}
use Rattle.read.specs.Reading.{format_field}
use Rattle.read.proofs.Laws.{format_read}
use Rattle.grammar.specs.Forms.{Form, forms, none, row_of, bounds_of, spread, free, is_number}
use Rattle.row_fields.specs.Letters.{field_at}
use Rattle.row_fields.specs.Reading.{fields_from, good, bad}
use Rattle.read.specs.Limits.{meets, field_limits, first_of, limits_from}
use Rattle.read.specs.Commands.{read_of}
use Rattle.grammar.specs.declared.Item.{Item}
use Rattle.grammar.specs.declared.Command.TheVariants.{Item as item}
use Rattle.row_fields.proofs.Rows.{fields_split}
use Rattle.writing.specs.Writing.{decimal, signed, kept, cased}
use Rattle.normal.specs.Written.{part_written, what_written, element_written, data_written, written_field, written_from, normal}
use Rattle.writing.proofs.Writes.{digits_last}
use Rattle.normal.proofs.Back.{T_true, digits-count, number_fits, signed-fits, text-fits, format-fits, cased-length}
use Rattle.normal.proofs.Fields.{Letter, letter-of, a-number, a-wide, a-day, a-step, a-prompt, a-text, a-name, a-star, a-mode, a-side, a-type, a_word, some-data, a-date, a-time, itself, plain-field, plain-written, word_fits}
use Rattle.normal.proofs.Round.{normal-is, item-parted}
use Rattle.elements.specs.declared.Part.{Part}
use Rattle.elements.specs.declared.Element.{Element}

-- ---- a number

-- digits after a number of k digits
value-count : (l : List ℕ) (v k : ℕ) → v < 10 ^ k → value_from v l < 10 ^ (k + length l)
unfolding value_from
value-count [] v k h = rw add-zero h
value-count (d ∷ ds) v k h =
    let e : k + suc (length ds) ≡ suc k + length ds = omega arith in
    let n : v * 10 + digit_of d < 10 ^ suc k = rw (pow-suc 10 k) (omega (arith, digit-small d)) in
    rw e (value-count ds (v * 10 + digit_of d) (suc k) n)

-- what is written of a number takes no more bytes than were read
abbrev Shorter : ℕ → Result (ℕ × ℕ) ℕ → Type 0
Shorter at (Ok (v, e)) = at + length (decimal v) ≤ e
Shorter at (Err p) = Unit {0}

number-shorter : (s : List ℕ) (at : ℕ) → Shorter at (number_at s at)
unfolding number_at
number-shorter s at = go (leb 1 (run_at Digit s at)) (leb (run_at Digit s at) 9) refl
  where
    go : (a b : Bool) → leb 1 (run_at Digit s at) ≡ a
        → Shorter at (cond (a && b) (Ok (value_from 0 (part s at (run_at Digit s at)), at + run_at Digit s at)) (Err at))
    go true true e =
        let k : ℕ = run_at Digit s at in
        let l = leb-true 1 k e in
        let v : ℕ = value_from 0 (part s at k) in
        let m : length (part s at k) ≤ k = simp length-take (omega arith) in
        let b : v < 10 ^ (k - 1 + 1) = value-fits (k - 1 + 1) v (0 + length (part s at k)) (value-count (part s at k) 0 0 (lit< tt)) (omega arith) in
        let c = (digits-count 19 (k - 1) v [] b).1 in
        omega arith
    go true false e = tt
    go false b e = tt

number-length : (s : List ℕ) (at v e : ℕ) → number_at s at ≡ Ok (v, e) → at + length (decimal v) ≤ e
number-length s at v e h = rw h at (number-shorter s at)

-- ---- data: each element takes no more bytes than it did

abbrev ModifierShorter : ℕ → Result (Part × ℕ) ℕ → Type 0
ModifierShorter at (Ok (p, e)) = at + length (part_written p) ≤ e
ModifierShorter at (Err q) = Unit {0}

module _ (at : ℕ) where
  first-shorter : (f : Result (ℕ × ℕ) ℕ) → Shorter (at + 1) f → ModifierShorter at (first (at + 1) f)
  unfolding part_written
  first-shorter (Ok (n, e)) h = omega arith
  first-shorter (Err p) h = tt

  last-shorter : (f : Result (ℕ × ℕ) ℕ) → Shorter (at + 1) f → ModifierShorter at (last (at + 1) f)
  unfolding part_written
  last-shorter (Ok (n, e)) h = omega arith
  last-shorter (Err p) h = tt

  middle-n-shorter : (p b : ℕ) (f : Result (ℕ × ℕ) ℕ) → at + length (decimal p) + 2 ≤ b → Shorter b f → ModifierShorter at (middle-n p b f)
  unfolding part_written
  middle-n-shorter p b (Ok (n, e)) k h = let z = length-append (decimal p) (code "." ∷ decimal n) in omega arith
  middle-n-shorter p b (Err q) k h = tt

byte-end : (b : ℕ) (s : List ℕ) (at v e : ℕ) → byte_at b s at ≡ Ok (v, e) → e ≡ at + 1
unfolding byte_at
byte-end b s at v e h = go (ltb at (length s) && eqb (get_or s at 0) b) h
  where
    go : (t : Bool) → cond {A = Result (ℕ × ℕ) ℕ} t (Ok (b, at + 1)) (Err at) ≡ Ok (v, e) → e ≡ at + 1
    go true k = sym (ok_second k)
    go false k = absurd (let z : ◌≡◌ {A = ℕ} 0 1 = cc in omega arith)

module _ (s : List ℕ) (at : ℕ) where
  middle-dot-shorter : (p d : ℕ) (f : Result (ℕ × ℕ) ℕ) → byte_at (code ".") s d ≡ f → at + length (decimal p) + 1 ≤ d → ModifierShorter at (middle-dot p s d f)
  middle-dot-shorter p d (Ok (b, e)) q k =
      let z = byte-end (code ".") s d b e q in
      middle-n-shorter at p e (number_at s e) (omega arith) (number-shorter s e)
  middle-dot-shorter p d (Err b) q k = tt

  middle-shorter : (f : Result (ℕ × ℕ) ℕ) → Shorter (at + 1) f → ModifierShorter at (middle s (at + 1) f)
  middle-shorter (Ok (p, e)) h = middle-dot-shorter p e (byte_at (code ".") s e) refl (omega arith)
  middle-shorter (Err q) h = tt

  modifier-shorter : ModifierShorter at (modifier_at s at)
  unfolding modifier_at
  modifier-shorter = go (eqb (get_or s at 0) (code "L")) (eqb (get_or s at 0) (code "R")) (eqb (get_or s at 0) (code "M"))
    where
      go : (a b c : Bool)
          → ModifierShorter at
          (cond a (first (at + 1) (number_at s (at + 1)))
          (cond b (last (at + 1) (number_at s (at + 1)))
          (cond c (middle s (at + 1) (number_at s (at + 1)))
          (Ok (Whole, at)))))
      go true b c = first-shorter at (number_at s (at + 1)) (number-shorter s (at + 1))
      go false true c = last-shorter at (number_at s (at + 1)) (number-shorter s (at + 1))
      go false false true = middle-shorter (number_at s (at + 1)) (number-shorter s (at + 1))
      go false false false = unfold part_written in omega arith

-- what stays takes at most the bytes that are asked for
kept-length : (t : Bool) (s : List ℕ) (p n : ℕ) → length (cased t (kept s p n)) ≤ n
kept-length t s p n = rw (cased-length t (kept s p n)) (simp length-take (omega arith))

abbrev StepShorter : List ℕ → Result Element ℕ → Type 0
StepShorter s (Ok e) = length (element_written s e) ≤ e.length
StepShorter s (Err p) = Unit {0}

module _ (s : List ℕ) (at : ℕ) where
  quoted-shorter : (f : Result (ℕ × ℕ) ℕ) → StepShorter s (quoted_from at f)
  unfolding what_written
  quoted-shorter (Ok (n, e)) = simp length-take (omega arith)
  quoted-shorter (Err p) = tt

  modified-shorter : (counter : Bool) (digit : ℕ) (m : Result (Part × ℕ) ℕ) → ModifierShorter (at + 2) m → StepShorter s (modified counter digit s at m)
  unfolding what_written
  modified-shorter true digit (Ok (p, e)) h = rw (digits_last 19 (digit_of digit) [] (let l = digit-small digit in omega arith)) (omega arith)
  modified-shorter false digit (Ok (p, e)) h = rw (digits_last 19 (digit_of digit) [] (let l = digit-small digit in omega arith)) (omega arith)
  modified-shorter counter digit (Err q) h = tt

  held-shorter : (counter : Bool) → StepShorter s (held_at counter s at)
  unfolding held_at
  held-shorter counter = go (between (code "0") (code "9") (get_or s (at + 1) 0))
    where
      go : (t : Bool)
          → StepShorter s (cond t (modified counter (get_or s (at + 1) 0) s at (modifier_at s (at + 2))) (Err (pointed s at (at + 1))))
      go true = modified-shorter counter (get_or s (at + 1) 0) (modifier_at s (at + 2)) (modifier-shorter s (at + 2))
      go false = tt

  stamped-shorter : StepShorter s (stamped_at s at)
  unfolding stamped_at what_written
  stamped-shorter = go (eqb (get_or s (at + 1) 0) (code "D")) (eqb (get_or s (at + 1) 0) (code "T"))
    where
      go : (a b : Bool) → StepShorter s (cond a (stamped_from at Date) (cond b (stamped_from at Time) (Err (pointed s at (at + 1)))))
      go true b = omega arith
      go false true = omega arith
      go false false = tt

  element-shorter : StepShorter s (element_at s at)
  unfolding element_at
  element-shorter = go (eqb (get_or s at 0) (code "\"")) (eqb (get_or s at 0) (code "V")) (eqb (get_or s at 0) (code "C")) (eqb (get_or s at 0) (code "T"))
    where
      go : (a b c d : Bool)
          → StepShorter s (cond a (quoted_from at (text_at s at)) (cond b (held_at false s at) (cond c (held_at true s at) (cond d (stamped_at s at) (Err at)))))
      go true b c d = quoted-shorter (text_at s at)
      go false true c d = held-shorter false
      go false false true d = held-shorter true
      go false false false true = stamped-shorter
      go false false false false = tt

elements-shorter : (n : ℕ) (s : List ℕ) (at : ℕ) → length (data_written s (elements_from n s at)) ≤ total (elements_from n s at)
unfolding elements_from data_written total
elements-shorter zero s at = omega arith
elements-shorter (suc n) s at = go (element_at s at) (element-shorter s at) (elements-shorter n s)
  where
    go : (x : Result Element ℕ) → StepShorter s x → ((i : ℕ) → length (data_written s (elements_from n s i)) ≤ total (elements_from n s i))
        → length (data_written s (follow x (elements_from n s))) ≤ total (follow x (elements_from n s))
    go (Ok e) h r =
        let z = length-append (element_written s e) (data_written s (elements_from n s (after e))) in
        let y = r (after e) in
        omega arith
    go (Err p) h r = omega arith

data-shorter : (s : List ℕ) (at v e : ℕ) → data_at s at ≡ Ok (v, e) → at + length (data_written s (elements s at)) ≤ e
unfolding data_at
data-shorter s at v e h =
    go (ltb at (at + total (elements s at)) && eqb (at + total (elements s at)) (length s)) h
  where
    go : (t : Bool)
        → cond {A = Result (ℕ × ℕ) ℕ} t (Ok (0, at + total (elements s at))) (Err (stopped (at + total (elements s at)) (element_at s (at + total (elements s at))))) ≡ Ok (v, e)
        → at + length (data_written s (elements s at)) ≤ e
    go true k =
        let q : at + total (elements s at) ≡ e = ok_second k in
        let r : length (data_written s (elements s at)) ≤ total (elements s at) = unfold elements in elements-shorter (length s - at) s at in
        omega arith
    go false k = absurd (let z : ◌≡◌ {A = ℕ} 0 1 = cc in omega arith)

-- ---- a step takes one byte more where it had no sign

plus-length : (at v e : ℕ) (f : Result (ℕ × ℕ) ℕ) → Shorter at f → plus f ≡ Ok (v, e) → at + length (signed v) ≤ e + 1
unfolding signed
plus-length at v e (Ok (w, d)) h k =
    let q : nought + w ≡ v = ok_first k in
    let r : d ≡ e = ok_second k in
    let n : v - nought ≡ w = omega arith in
    rw (le-ltb v nought (omega arith), n) (omega arith)
plus-length at v e (Err p) h k = absurd (let z : ◌≡◌ {A = ℕ} 0 1 = cc in omega arith)

minus-length : (at v e : ℕ) (f : Result (ℕ × ℕ) ℕ) → Shorter at f → Small f → minus f ≡ Ok (v, e) → at + length (signed v) ≤ e + 1
unfolding signed
minus-length at v e (Ok (w, d)) h l k = go (dec_lt v nought)
  where
    go : Dec (v < nought) → at + length (cond (ltb v nought) (code "-" ∷ decimal (nought - v)) (code "+" ∷ decimal (v - nought))) ≤ e + 1
    go (yes m) =
        let q : nought - w ≡ v = ok_first k in
        let r : d ≡ e = ok_second k in
        let n : nought - v ≡ w = omega arith in
        rw (lt-ltb v nought m, n) (omega arith)
    go (no m) =
        let q : nought - w ≡ v = ok_first k in
        let r : d ≡ e = ok_second k in
        let n : v - nought ≡ w = omega arith in
        rw (le-ltb v nought (omega arith), n) (omega arith)
minus-length at v e (Err p) h l k = absurd (let z : ◌≡◌ {A = ℕ} 0 1 = cc in omega arith)

signed-length : (s : List ℕ) (at v e : ℕ) → signed_at s at ≡ Ok (v, e) → at + length (signed v) ≤ e + 1
signed-length s at v e h = go (eqb (get_or s at 0) (code "+")) (eqb (get_or s at 0) (code "-")) (signed-found s at v e h)
  where
    go : (a b : Bool)
        → cond a (plus (number_at s (at + 1))) (cond b (minus (number_at s (at + 1))) (plus (number_at s at))) ≡ Ok (v, e)
        → at + length (signed v) ≤ e + 1
    go true b k = let l = plus-length (at + 1) v e (number_at s (at + 1)) (number-shorter s (at + 1)) k in omega arith
    go false true k = let l = minus-length (at + 1) v e (number_at s (at + 1)) (number-shorter s (at + 1)) (number_small s (at + 1)) k in omega arith
    go false false k = plus-length at v e (number_at s at) (number-shorter s at) k

-- ---- each letter of the grammar

letter-end : (k : Class) (s : List ℕ) (at v e : ℕ) → letter_at k s at ≡ Ok (v, e) → e ≡ at + 1
letter-end c s at v e h = go (ltb at (length s) && in_class c (get_or s at 0)) (letter-found s at v e c h)
  where
    go : (t : Bool) → cond {A = Result (ℕ × ℕ) ℕ} t (Ok (get_or s at 0, at + 1)) (Err at) ≡ Ok (v, e) → e ≡ at + 1
    go true k = sym (ok_second k)
    go false k = absurd (let z : ◌≡◌ {A = ℕ} 0 1 = cc in omega arith)

type-end : (s : List ℕ) (at v e : ℕ) → type_at s at ≡ Ok (v, e) → e ≡ at + cond (eqb v 30) 3 1
type-end s at v e h =
    go (eqb (get_or s at 0) (code "1")) (eqb (get_or s at 0) (code "2")) (eqb (get_or s at 0) (code "3"))
    (eqb (get_or s at 0) (code "E") && (eqb (get_or s (at + 1) 0) (code "3") && eqb (get_or s (at + 2) 0) (code "0")))
    (type-found s at v e h)
  where
    go : (a b c d : Bool)
        → cond {A = Result (ℕ × ℕ) ℕ} a (Ok (1, at + 1)) (cond b (Ok (2, at + 1)) (cond c (Ok (3, at + 1)) (cond d (Ok (30, at + 3)) (Err at)))) ≡ Ok (v, e)
        → e ≡ at + cond (eqb v 30) 3 1
    go true b c d k = let x : 1 ≡ v = ok_first k in let y : at + 1 ≡ e = ok_second k in rw (← x) (sym y)
    go false true c d k = let x : 2 ≡ v = ok_first k in let y : at + 1 ≡ e = ok_second k in rw (← x) (sym y)
    go false false true d k = let x : 3 ≡ v = ok_first k in let y : at + 1 ≡ e = ok_second k in rw (← x) (sym y)
    go false false false true k = let x : 30 ≡ v = ok_first k in let y : at + 3 ≡ e = ok_second k in rw (← x) (sym y)
    go false false false false k = absurd (let z : ◌≡◌ {A = ℕ} 0 1 = cc in omega arith)

text-length : (t : Bool) (s : List ℕ) (at v e : ℕ) → text_at s at ≡ Ok (v, e) → at + length (cased t (kept s at (v + 2))) ≤ e + 0
text-length t s at v e h = let q = (text-fits s at v e h).ends in let l = kept-length t s at (v + 2) in omega arith

format-length : (st : Stamp) (s : List ℕ) (at v e : ℕ) → format_field st s at ≡ Ok (v, e) → at + length (cased false (drop at s)) ≤ e + 0
format-length st s at v e h =
    let i = (format-fits st s at v e h).within in
    let n = (format_read st s at v e h).ends in
    let l = length-drop at s in
    rw (cased-length false (drop at s)) (omega arith)

-- how many bytes a field may grow by
abbrev grows : ℕ → ℕ
grows f = cond (eqb f (code "s")) 1 0

field-length : {f : ℕ} (x : Letter f) (s : List ℕ) (at v e : ℕ) → field_at f s at ≡ Ok (v, e) → at + length (written_field f s v at) ≤ e + grows f
unfolding field_at written_field
field-length a-number s at v e h = let l = number-length s at v e h in omega arith
field-length a-wide s at v e h = let l = number-length s at v e h in omega arith
field-length a-day s at v e h = let l = number-length s at v e h in omega arith
field-length a-step s at v e h = signed-length s at v e h
field-length a-prompt s at v e h = text-length false s at v e h
field-length a-text s at v e h = text-length false s at v e h
field-length a-name s at v e h = text-length true s at v e h
field-length a-star s at v e h = text-length true s at v e h
field-length a-mode s at v e h = let q = letter-end Mode s at v e h in let l = kept-length false s at 1 in omega arith
field-length a-side s at v e h = let q = letter-end Side s at v e h in let l = kept-length false s at 1 in omega arith
field-length a-type s at v e h = let q = type-end s at v e h in let l = kept-length false s at (cond (eqb v 30) 3 1) in omega arith
field-length a_word s at v e h = let q = (word_fits s at v e h).ends in omega arith
field-length some-data s at v e h = let l = data-shorter s at v e h in omega arith
field-length a-date s at v e h = format-length Date s at v e h
field-length a-time s at v e h = format-length Time s at v e h
field-length {f} (itself p) s at v e h =
    let q = byte-end f s at v e (sym (plain-field p s at) ∙ h) in
    rw (plain-written p s v at, p.no-s) (omega arith)

-- ---- the fields of a form

unfoldable signs : List ℕ → ℕ
signs [] = 0
signs (f ∷ fs) = grows f + signs fs

fields-end : (s : List ℕ) (at : ℕ) (vs ps : List ℕ) → fields_from [] s at ≡ good vs ps → at ≡ length s
unfolding fields_from
fields-end s at vs ps h = go (eqb at (length s)) refl h
  where
    go : (t : Bool) → eqb at (length s) ≡ t → cond t (good [] []) (bad [] [] at) ≡ good vs ps → at ≡ length s
    go true q k = eqb-true at (length s) q
    go false q k = absurd (let z : ◌≡◌ {A = ℕ} 0 1 = cc in omega arith)

split-length : (f : ℕ) (fs s ws qs : List ℕ) (v at : ℕ) (vs ps : List ℕ) → ws ≡ v ∷ vs → qs ≡ at ∷ ps
    → length (written_from (f ∷ fs) s ws qs) ≡ length (written_field f s v at) + length (written_from fs s vs ps)
unfolding written_from
split-length f fs s ws qs v at vs ps a b = rw (a, b) (length-append (written_field f s v at) (written_from fs s vs ps))

fields-length : (fs s : List ℕ) (at : ℕ) (vs ps : List ℕ) → fields_from fs s at ≡ good vs ps → at + length (written_from fs s vs ps) ≤ length s + signs fs
unfolding signs
fields-length [] s at vs ps h = let q = fields-end s at vs ps h in unfold written_from in omega arith
fields-length (f ∷ fs) s at vs ps h =
    let x = fields_split f fs s at vs ps h in
    let a = field-length (letter-of f) s at x.v x.e x.first in
    let r = fields-length fs s x.e x.vs x.ps x.others in
    let z = split-length f fs s vs ps x.v at x.vs x.ps x.values x.places in
    omega arith

-- ---- a form of numbers, a step and a prompt: as many bytes as its limits allow

-- letters of no more bytes than `widest`
abbrev narrow : ℕ → Bool
narrow f = not (eqb f (code "a") || (eqb f (code "z") || (eqb f (code "u") || (eqb f (code "k") || (eqb f (code "h") || (eqb f (code "d") || (eqb f (code "f") || eqb f (code "g"))))))))

abbrev widest : ℕ → ℕ × ℕ → ℕ
widest f l = cond (is_number f) 9 (cond (eqb f (code "s")) 10 (cond (eqb f (code "t")) (l.1 + 2) 1))

within-high : (lo hi v p : ℕ) (t : Bool) → ◌≡◌ {A = Result Unit ℕ} (cond (between lo hi v && t) (Ok tt) (Err p)) (Ok tt) → v ≤ hi
unfolding between
within-high lo hi v p t h = go (leb lo v) (leb v hi) refl h
  where
    go : (a b : Bool) → leb v hi ≡ b → ◌≡◌ {A = Result Unit ℕ} (cond ((a && b) && t) (Ok tt) (Err p)) (Ok tt) → v ≤ hi
    go true true q k = leb-true v hi q
    go true false q k = absurd (let z : ◌≡◌ {A = ℕ} 0 1 = cc in omega arith)
    go false b q k = absurd (let z : ◌≡◌ {A = ℕ} 0 1 = cc in omega arith)

decimal-narrow : (v : ℕ) → v < 1000000000 → length (decimal v) ≤ 9
decimal-narrow v h = let k = (digits-count 19 8 v [] h).1 in omega arith

signed-narrow : (v : ℕ) → 0 < v → v < 2000000000 → length (signed v) ≤ 10
unfolding signed
signed-narrow v h k = go (dec_lt v nought)
  where
    go : Dec (v < nought) → length (cond (ltb v nought) (code "-" ∷ decimal (nought - v)) (code "+" ∷ decimal (v - nought))) ≤ 10
    go (yes m) = rw (lt-ltb v nought m) (let l = decimal-narrow (nought - v) (omega arith) in omega arith)
    go (no m) = rw (le-ltb v nought (omega arith)) (let l = decimal-narrow (v - nought) (omega arith) in omega arith)

field-narrow : {f : ℕ} (x : Letter f) (s : List ℕ) (at v e : ℕ) (l : ℕ × ℕ) (u n : ℕ) → T (narrow f) → field_at f s at ≡ Ok (v, e)
    → field_limits f l s u v at n ≡ Ok tt
    → length (written_field f s v at) ≤ widest f l
unfolding field_at written_field field_limits meets
field-narrow a-number s at v e l u n t h k = decimal-narrow v (number_fits s at v e h)
field-narrow a-wide s at v e l u n t h k = decimal-narrow v (number_fits s at v e h)
field-narrow a-day s at v e l u n t h k = decimal-narrow v (number_fits s at v e h)
field-narrow a-step s at v e l u n t h k = let q = signed-fits s at v e h in signed-narrow v q.0 q.1
field-narrow a-prompt s at v e l u n t h k =
    let q = within-high l.0 l.1 v at true k in
    let m = kept-length false s at (v + 2) in
    omega arith
field-narrow a-text s at v e l u n t h k = absurd t
field-narrow a-name s at v e l u n t h k = absurd t
field-narrow a-star s at v e l u n t h k = absurd t
field-narrow a-mode s at v e l u n t h k = kept-length false s at 1
field-narrow a-side s at v e l u n t h k = kept-length false s at 1
field-narrow a-type s at v e l u n t h k = absurd t
field-narrow a_word s at v e l u n t h k = absurd t
field-narrow some-data s at v e l u n t h k = absurd t
field-narrow a-date s at v e l u n t h k = absurd t
field-narrow a-time s at v e l u n t h k = absurd t
field-narrow (itself p) s at v e l u n t h k = rw (plain-written p s v at, p.no-n, p.no-w, p.no-y, p.no-s, p.no-t) (omega arith)

unfoldable all_narrow : List ℕ → Bool
all_narrow [] = true
all_narrow (f ∷ fs) = narrow f && all_narrow fs

unfoldable room : List ℕ → List (ℕ × ℕ) → ℕ
room [] ls = 0
room (f ∷ fs) ls = widest f (get_or ls 0 free) + room fs (drop 1 ls)

first-within : (a b : Result Unit ℕ) → first_of a b ≡ Ok tt → (a ≡ Ok tt) × (b ≡ Ok tt)
first-within (Ok u) b h = (refl, h)
first-within (Err p) b h = absurd (let z : ◌≡◌ {A = ℕ} 0 1 = cc in omega arith)

split-within : (f : ℕ) (fs s ws qs : List ℕ) (v at : ℕ) (vs ps : List ℕ) (ls : List (ℕ × ℕ)) (u : ℕ) → ws ≡ v ∷ vs → qs ≡ at ∷ ps
    → limits_from (f ∷ fs) ls s u ws qs ≡ Ok tt
    → (field_limits f (get_or ls 0 free) s u v at (get_or vs 1 0) ≡ Ok tt) × (limits_from fs (drop 1 ls) s (cond (is_number f) v u) vs ps ≡ Ok tt)
unfolding limits_from
split-within f fs s ws qs v at vs ps ls u a b h =
    first-within (field_limits f (get_or ls 0 free) s u v at (get_or vs 1 0)) (limits_from fs (drop 1 ls) s (cond (is_number f) v u) vs ps) (rw (a, b) at h)

fields-narrow : (fs s : List ℕ) (at : ℕ) (vs ps : List ℕ) (ls : List (ℕ × ℕ)) (u : ℕ) → T (all_narrow fs) → fields_from fs s at ≡ good vs ps
    → limits_from fs ls s u vs ps ≡ Ok tt
    → length (written_from fs s vs ps) ≤ room fs ls
unfolding room all_narrow
fields-narrow [] s at vs ps ls u t h k = unfold written_from in omega arith
fields-narrow (f ∷ fs) s at vs ps ls u t h k =
    let x = fields_split f fs s at vs ps h in
    let n = and_T (narrow f) (all_narrow fs) t in
    let w = split-within f fs s vs ps x.v at x.vs x.ps ls u x.values x.places k in
    let a = field-narrow (letter-of f) s at x.v x.e (get_or ls 0 free) u (get_or x.vs 1 0) n.0 x.first w.0 in
    let r = fields-narrow fs s x.e x.vs x.ps (drop 1 ls) (cond (is_number f) x.v u) n.1 x.others w.1 in
    let z = split-length f fs s vs ps x.v at x.vs x.ps x.values x.places in
    omega arith

-- ---- lines

-- no field of a row grows, or the row is short by its limits: C, whose numbers take 9 bytes at most, its step 10 and its prompt 26
abbrev short : ℕ → Form → Bool
short rows f = eqb (signs f.fields) 0 || (all_narrow f.fields && leb (room f.fields (spread f.fields (f.bounds rows))) 255)

abbrev every_form : (Form → Bool) → List Form → Bool
every_form p [] = true
every_form p (f ∷ fs) = p f && every_form p fs

every-form : (p : Form → Bool) (fs : List Form) → T (every_form p fs) → T (p none) → (row : ℕ) → T (p (get_or fs row none))
every-form p [] h e row = e
every-form p (f ∷ fs) h e zero = (and_T (p f) (every_form p fs) h).0
every-form p (f ∷ fs) h e (suc row) = every-form p fs (and_T (p f) (every_form p fs) h).1 e row

form-short : (rows row : ℕ) → T (short rows (row_of row))
unfolding signs all_narrow room spread
form-short rows row = every-form (short rows) forms tt tt row

row-short : (row rows : ℕ) (s vs ps : List ℕ) → fields_from (row_of row).fields s 0 ≡ good vs ps
    → limits_from (row_of row).fields (bounds_of row rows) s 0 vs ps ≡ Ok tt → length s ≤ 255
    → length (written_from (row_of row).fields s vs ps) ≤ 255
row-short row rows s vs ps h k l = go (eqb (signs (row_of row).fields) 0) refl (form-short rows row)
  where
    go : (t : Bool) → eqb (signs (row_of row).fields) 0 ≡ t
        → T (t || (all_narrow (row_of row).fields && leb (room (row_of row).fields (bounds_of row rows)) 255))
        → length (written_from (row_of row).fields s vs ps) ≤ 255
    go true e q =
        let z = eqb-true (signs (row_of row).fields) 0 e in
        let c = fields-length (row_of row).fields s 0 vs ps h in
        omega arith
    go false e q =
        let o = and_T (all_narrow (row_of row).fields) (leb (room (row_of row).fields (bounds_of row rows)) 255) q in
        let c = fields-narrow (row_of row).fields s 0 vs ps (bounds_of row rows) 0 o.0 h k in
        let r = leb-true (room (row_of row).fields (bounds_of row rows)) 255 (T_true (leb (room (row_of row).fields (bounds_of row rows)) 255) o.1) in
        omega arith

-- THE NORMAL FORM IS A LINE: at most 255 bytes
pub normal-short : (rows : ℕ) (s : List ℕ) (i : Item) → read_of rows s ≡ Ok (item i) → length s ≤ 255 → length (normal s) ≤ 255
normal-short rows s i h l =
    let p = item-parted rows s i h in
    rw (normal-is s p.row p.vs p.ps p.head p.read) (row-short p.row rows s p.vs p.ps p.read p.within l)
