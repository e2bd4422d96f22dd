-- A field can be written after any others, and a field of which the first byte stands there can be finished.
use Rattle.std.specs.Prelude.{Result, Ok}
use mathlib.Core.Path.{◌≡◌, refl, sym, ◌∙◌}
use mathlib.Core.Bool.{Bool, true, false, cond, true≢false}
use mathlib.Core.List.{List, [], ◌∷◌, ◌++◌}
use Prim.Native.Nat.{ℕ, ◌+◌}
use Prim.Native.Char.{code}
use native.Mathlib.Nat.{add-zero}
use native.Mathlib.Omega.{arith}
use native.Mathlib.Decide.{ℕ_discrete}
use lib.ListN.{length, get_or, length-append, get_or-append}
use lib.Seq.{get_or-append_seam}
use lib.Dec.{eqb}
use borrow.Author.Tests.{ne_eqb}
use Rattle.formats.specs.Bytes.{between}
use Rattle.formats.specs.declared.Stamp.{Stamp}
use Rattle.formats.specs.declared.Stamp.TheVariants.{Date, Time}
use Rattle.formats.specs.Formats.{unit, new_unit}
use Rattle.formats.proofs.Legality.{no-new}
use Rattle.format_field.specs.Reading.{letter, unit_of, date_field, time_field, field_at}
use Rattle.format_field.proofs.Steps.{field-whole}
use Rattle.format_field.proofs.Moved.{field-on}

-- ---- a unit that has not come yet

-- of the three units one is neither u nor v
pub data Spare (u v : ℕ) : Type 0 where
  one : new_unit u v 1 ≡ true → Spare u v
  two : new_unit u v 2 ≡ true → Spare u v
  three : new_unit u v 3 ≡ true → Spare u v

new-unit : (u v n : ℕ) → (n ≡ 0 → ⊥) → (n ≡ u → ⊥) → (n ≡ v → ⊥) → new_unit u v n ≡ true
unfolding new_unit
new-unit u v n a b c = rw (ne_eqb n 0 a, ne_eqb n u b, ne_eqb n v c)

pub spare : (u v : ℕ) → Spare u v
spare u v = go (ℕ_discrete 1 u) (ℕ_discrete 1 v) (ℕ_discrete 2 u) (ℕ_discrete 2 v)
  where
    go : Dec (1 ≡ u) → Dec (1 ≡ v) → Dec (2 ≡ u) → Dec (2 ≡ v) → Spare u v
    go (no a) (no b) p q = one (new-unit u v 1 (λ e. omega arith) a b)
    go (no a) (yes b) (no p) (no q) = two (new-unit u v 2 (λ e. omega arith) p q)
    go (no a) (yes b) (no p) (yes q) = absurd (omega arith)
    go (no a) (yes b) (yes p) q = three (new-unit u v 3 (λ e. omega arith) (λ e. omega arith) (λ e. omega arith))
    go (yes a) b (no p) (no q) = two (new-unit u v 2 (λ e. omega arith) p q)
    go (yes a) b (no p) (yes q) = three (new-unit u v 3 (λ e. omega arith) (λ e. omega arith) (λ e. omega arith))
    go (yes a) b (yes p) q = absurd (omega arith)

-- ---- what makes a field whole

pub record SpotRest (R : List ℕ → Result (ℕ × ℕ) ℕ) (s : List ℕ) : Type 0 where
  pub tail : List ℕ
  pub field : ℕ
  pub whole : R (s ++ tail) ≡ Ok (field, length (s ++ tail))

module _ (s : List ℕ) (u v : ℕ) where
  behind : (st : Stamp) (l : List ℕ) (x : ℕ) → field_at st l u v 0 ≡ Ok (x, length l) → SpotRest (λ t. field_at st t u v (length s)) s
  behind st l x h = record {
    tail = l;
    field = x;
    whole =
        let e : length s + 0 ≡ length s = add-zero (length s) in
        let r : field_at st (s ++ l) u v (length s + 0) ≡ Ok (x, length s + length l) = field-on st s l u v 0 ∙ rw h in
        rw (length-append s l) (rw e at r);
  }

  -- a field behind any others: Y2, MN or DD; H, M or S
  pub field-fills : (st : Stamp) → SpotRest (λ t. field_at st t u v (length s)) s
  field-fills st = go st (spare u v)
    where
      go : (st : Stamp) → Spare u v → SpotRest (λ t. field_at st t u v (length s)) s
      go Date (one h) = behind Date (code "Y" ∷ code "2" ∷ []) 1 (unfold field_at date_field letter unit between in rw h)
      go Date (two h) = behind Date (code "M" ∷ code "N" ∷ []) 4 (unfold field_at date_field letter unit between in rw h)
      go Date (three h) = behind Date (code "D" ∷ code "D" ∷ []) 5 (unfold field_at date_field letter unit between in rw h)
      go Time (one h) = behind Time (code "H" ∷ []) 1 (unfold field_at time_field letter unit between in rw h)
      go Time (two h) = behind Time (code "M" ∷ []) 2 (unfold field_at time_field letter unit between in rw h)
      go Time (three h) = behind Time (code "S" ∷ []) 3 (unfold field_at time_field letter unit between in rw h)

-- ---- a date's field of which the first byte stands there

-- its second byte, and the field
record Second (u v a : ℕ) : Type 0 where
  second : ℕ
  fits : new_unit u v (unit Date (date_field a second)) ≡ true

second-of : (u v a : ℕ) → new_unit u v (unit_of a) ≡ true → Second u v a
unfolding unit_of
second-of u v a = go (letter (code "Y") a) (letter (code "M") a) (letter (code "D") a) refl refl refl
  where
    go : (y m d : Bool) → letter (code "Y") a ≡ y → letter (code "M") a ≡ m → letter (code "D") a ≡ d → new_unit u v (cond y 1 (cond m 2 (cond d 3 0))) ≡ true → Second u v a
    go true m d p q r h = record { second = code "2"; fits = unfold date_field unit between in rw p h }
    go false true d p q r h = record { second = code "N"; fits = unfold date_field unit between in rw (p, q) (unfold letter in h) }
    go false false true p q r h = record { second = code "D"; fits = unfold date_field unit between in rw (p, q, r) (unfold letter in h) }
    go false false false p q r h = absurd (true≢false (sym h ∙ no-new u v))

-- a byte that starts no field of another unit starts none, whatever follows it
pub date-unlike : (u v a b : ℕ) → new_unit u v (unit_of a) ≡ false → new_unit u v (unit Date (date_field a b)) ≡ false
unfolding unit_of date_field unit between
date-unlike u v a b =
    go (letter (code "Y") a) (letter (code "M") a) (letter (code "D") a) (eqb b (code "2")) (eqb b (code "4")) (letter (code "E") b) (letter (code "N") b) (letter (code "D") b)
  where
    go : (y m d b2 b4 be bn bd : Bool) → new_unit u v (cond y 1 (cond m 2 (cond d 3 0))) ≡ false
        → new_unit u v (unit Date (cond y (cond b2 1 (cond b4 2 0)) (cond m (cond be 3 (cond bn 4 0)) (cond d (cond bd 5 0) 0)))) ≡ false
    go true m d true b4 be bn bd h = h
    go true m d false true be bn bd h = h
    go true m d false false be bn bd h = no-new u v
    go false true d b2 b4 true bn bd h = h
    go false true d b2 b4 false true bd h = h
    go false true d b2 b4 false false bd h = no-new u v
    go false false true b2 b4 be bn true h = h
    go false false true b2 b4 be bn false h = no-new u v
    go false false false b2 b4 be bn bd h = no-new u v

-- a date's field that is cut off behind its first byte is finished by another
pub date-finished : (s : List ℕ) (u v at : ℕ) → length s ≡ at + 1 → new_unit u v (unit_of (get_or s at 0)) ≡ true → SpotRest (λ t. field_at Date t u v at) s
date-finished s u v at l h =
    let r = second-of u v (get_or s at 0) h in
    let t : List ℕ = s ++ (r.second ∷ []) in
    let n : length t ≡ at + 2 = length-append s (r.second ∷ []) ∙ omega arith in
    let a : get_or t at 0 ≡ get_or s at 0 = get_or-append s (r.second ∷ []) 0 at (omega arith) in
    let b : get_or t (at + 1) 0 ≡ r.second = rw (← l) (get_or-append_seam s r.second [] 0) in
    record {
      tail = r.second ∷ [];
      field = date_field (get_or s at 0) r.second;
      whole = field-whole Date t u v at (omega arith) ∙ rw (a, b, r.fits, n);
    }
