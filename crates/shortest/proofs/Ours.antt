-- Laws of `our_writing`: what it is, and how many symbols it has.
-- Assumes nothing.
use mathlib.Core.Path.{◌≡◌, refl}
use mathlib.Core.Bool.{Bool, true, false, cond}
use mathlib.Core.List.{List, [], ◌∷◌}
use Prim.Native.Nat.{ℕ, ◌+◌, ◌≤◌}
use native.Mathlib.Omega.{arith}
use lib.ListN.{length}
use lib.Dec.{ltb}
use borrow.Author.Tests.{ltb-true}
use Rattle.kinds.specs.declared.Kind.TheVariants.{Code128}
use Rattle.kinds.specs.Fit.{fit}
use Rattle.kinds.proofs.FitData.{fit-most}
use Rattle.shortest.specs.Found.{best, started, our_writing, most_symbols}
use Rattle.shortest.proofs.Best.{few}

pub ours-fit : (s : List ℕ) → fit Code128 s ≡ true → our_writing s ≡ started (best s)
unfolding our_writing
ours-fit s h = rw h

pub ours-unfit : (s : List ℕ) → fit Code128 s ≡ false → our_writing s ≡ []
unfolding our_writing
ours-unfit s h = rw h

-- ---- how many there are

started-few : (s : List ℕ) → (1 ≤ length (started (best s))) × (length (started (best s)) ≤ length s + 1)
unfolding started
started-few s = go (ltb (length (best s).in_c) (length (best s).in_b)) refl
  where
    go : (x : Bool) → ltb (length (best s).in_c) (length (best s).in_b) ≡ x
        → (1 ≤ length (cond x (105 ∷ (best s).in_c) (104 ∷ (best s).in_b))) × (length (cond x (105 ∷ (best s).in_c) (104 ∷ (best s).in_b)) ≤ length s + 1)
    go true e = let l = ltb-true (length (best s).in_c) (length (best s).in_b) e in omega (arith, few s)
    go false e = omega (arith, few s)

-- the start symbol, and at most one for each byte
pub ours-few : (s : List ℕ) → fit Code128 s ≡ true → (1 ≤ length (our_writing s)) × (length (our_writing s) ≤ length s + 1)
ours-few s h = rw (ours-fit s h) (started-few s)

pub ours-most : (s : List ℕ) → length (our_writing s) ≤ most_symbols
ours-most s = go (fit Code128 s) refl
  where
    go : (x : Bool) → fit Code128 s ≡ x → length (our_writing s) ≤ most_symbols
    go true h = omega (arith, ours-few s h, fit-most Code128 s h)
    go false h = rw (ours-unfit s h) (omega arith)
