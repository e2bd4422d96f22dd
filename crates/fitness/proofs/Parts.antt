-- Laws of `part_of`: how long a part is, what its bytes are, and parts of equal bytes.
use mathlib.Core.Path.{◌≡◌, refl, ap}
use mathlib.Core.Bool.{Bool, true}
use mathlib.Core.List.{List, ◌∷◌}
use Prim.Native.Nat.{ℕ, zero, suc, ◌-◌, ◌≤◌, min}
use native.Mathlib.Nat.{zero-min, min-zero, suc-min-suc, sub-zero, zero-sub, suc-sub-suc}
use native.Mathlib.Omega.{arith}
use lib.ListN.{length, take, drop, replicate, length-take, length-drop, length-replicate}
use Rattle.kinds.specs.Bytes.{all_in}
use Rattle.elements.specs.declared.Part.{Part}
use Rattle.elements.specs.declared.Part.TheVariants.{Whole, First, Last, Middle}
use Rattle.summary.specs.Data.{part_of}
use Rattle.summary.specs.Summary.{part_length}
use Rattle.padding.proofs.Ranges.{all_take, all_drop}

pub length_part : (p : Part) (v : List ℕ) → length (part_of p v) ≡ part_length p (length v)
unfolding part_of part_length
length_part Whole v = refl
length_part (First n) v = length-take n v
length_part (Last n) v = rw length-drop (omega arith)
length_part (Middle p n) v = rw (length-take, length-drop)

pub all-part : (q : ℕ → Bool) (p : Part) (v : List ℕ) → all_in q v ≡ true → all_in q (part_of p v) ≡ true
unfolding part_of
all-part q Whole v h = h
all-part q (First n) v h = all_take q n v h
all-part q (Last n) v h = all_drop q (length v - n) v h
all-part q (Middle p n) v h = all_take q n (drop (p - 1) v) (all_drop q (p - 1) v h)

take-replicate : (n m x : ℕ) → take n (replicate m x) ≡ replicate (min n m) x
take-replicate zero m x = rw zero-min
take-replicate (suc n) zero x = rw min-zero
take-replicate (suc n) (suc m) x = rw suc-min-suc (ap (λ (t : List ℕ). x ∷ t) (take-replicate n m x))

drop-replicate : (n m x : ℕ) → drop n (replicate m x) ≡ replicate (m - n) x
drop-replicate zero m x = rw sub-zero
drop-replicate (suc n) zero x = rw zero-sub
drop-replicate (suc n) (suc m) x = rw suc-sub-suc (drop-replicate n m x)

pub part-replicate : (p : Part) (m x : ℕ) → part_of p (replicate m x) ≡ replicate (part_length p m) x
unfolding part_of part_length
part-replicate Whole m x = refl
part-replicate (First n) m x = take-replicate n m x
part-replicate (Last n) m x =
    rw (length-replicate, drop-replicate) (ap (λ (k : ℕ). replicate k x) (let e : m - (m - n) ≡ min n m = omega arith in e))
part-replicate (Middle p n) m x = rw (drop-replicate, take-replicate)

pub part-grows : (p : Part) (a b : ℕ) → a ≤ b → part_length p a ≤ part_length p b
unfolding part_length
part-grows Whole a b h = h
part-grows (First n) a b h = omega arith
part-grows (Last n) a b h = omega arith
part-grows (Middle p n) a b h = omega arith
