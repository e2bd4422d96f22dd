-- Of ten numbers the one at a place: after a store, and where all are 0.
use mathlib.Core.Path.{◌≡◌, refl, ap}
use mathlib.Core.Bool.{Bool, true, false, cond}
use mathlib.Core.List.{List}
use Prim.Native.Nat.{ℕ, zero, suc, ◌<◌}
use native.Mathlib.Omega.{arith}
use lib.ListN.{length, get_or, set, replicate}
use lib.Seq.{get_or-set_same, get_or-set_other}
use lib.Dec.{ltb}
use borrow.Author.Tests.{lt-ltb, ltb-true}
use Rattle.declarations.specs.Declarations.{tenth}

-- what is declared has a number below ten
pub tenth-below : (l : List ℕ) (k : ℕ) → 0 < tenth l k → k < 10
tenth-below l k h = go (ltb k 10) refl h
  where
    go : (b : Bool) → ltb k 10 ≡ b → 0 < cond b (get_or l k 0) 0 → k < 10
    go true p q = ltb-true k 10 p
    go false p q = absurd (omega arith)

pub tenth-same : (l : List ℕ) (n x : ℕ) → length l ≡ 10 → n < 10 → tenth (set l n x) n ≡ x
tenth-same l n x e h = rw (lt-ltb n 10 h) (get_or-set_same l n x 0 (omega arith))

pub tenth-other : (l : List ℕ) (n k x : ℕ) → (k ≡ n → ⊥) → tenth (set l n x) k ≡ tenth l k
tenth-other l n k x h = ap (λ (y : ℕ). cond (ltb k 10) y 0) (get_or-set_other l n k x 0 h)

pub tenth-none : (k : ℕ) → tenth (replicate 10 0) k ≡ 0
tenth-none k = go (ltb k 10)
  where
    zeros : (n i : ℕ) → get_or {A = ℕ} (replicate n 0) i 0 ≡ 0
    zeros zero i = refl
    zeros (suc n) zero = refl
    zeros (suc n) (suc i) = zeros n i

    go : (b : Bool) → ◌≡◌ {A = ℕ} (cond b (get_or (replicate 10 0) k 0) 0) 0
    go true = zeros 10 k
    go false = refl
