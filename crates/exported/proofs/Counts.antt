-- The counts stored: bytes read, bytes written and the place.
-- Assumes nothing.
use mathlib.Core.Path.{◌≡◌, refl}
use mathlib.Core.List.{List, [], ◌∷◌}
use Prim.Native.Nat.{ℕ}
use native.Mathlib.Omega.{arith}
use lib.ListN.{length, set}
use borrow.Author.Tests.{ne_eqb}
use Rattle.exported.specs.Face.{counts_size, counts_stored}

pub counts-three : (l : List ℕ) (r w p : ℕ) → length l ≡ counts_size → set (set (set l 0 r) 1 w) 2 p ≡ counts_stored l r w p
unfolding counts_stored
counts-three [] r w p h = absurd (omega arith)
counts-three (x ∷ []) r w p h = absurd (omega arith)
counts-three (x ∷ y ∷ []) r w p h = absurd (omega arith)
counts-three (x ∷ y ∷ z ∷ []) r w p h = refl
counts-three (x ∷ y ∷ z ∷ v ∷ l) r w p h = absurd (omega arith)

pub counts-other : (l : List ℕ) (r w p : ℕ) → (length l ≡ counts_size → ⊥) → l ≡ counts_stored l r w p
unfolding counts_stored
counts-other l r w p h = rw (ne_eqb (length l) counts_size h)
