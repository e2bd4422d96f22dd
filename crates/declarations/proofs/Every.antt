-- `every`: a test of ten numbers, one after another.
use mathlib.Core.Path.{◌≡◌, refl}
use mathlib.Core.Bool.{Bool, true, false}
use Prim.Native.Nat.{ℕ, zero, suc, ◌+◌, ◌-◌, ◌≤◌, ◌<◌}
use native.Mathlib.Omega.{arith}
use native.Mathlib.Decide.{ℕ_discrete}
use Rattle.ground.proofs.Tests.{and_left, and_right, and_both}
use Rattle.declarations.specs.Declarations.{every}

pub every-at : (q : ℕ → Bool) (n i k : ℕ) → every q n i ≡ true → i ≤ k → k < i + n → q k ≡ true
every-at q zero i k h a b = absurd (omega arith)
every-at q (suc n) i k h a b = elim (ℕ_discrete i k) [
  | yes e ↦ rw (← e) (and_left (q i) (every q n (suc i)) h)
  | no e ↦ every-at q n (suc i) k (and_right (q i) (every q n (suc i)) h) (omega arith) (omega arith)
]

pub every-all : (q : ℕ → Bool) (n i : ℕ) → ((k : ℕ) → i ≤ k → k < i + n → q k ≡ true) → every q n i ≡ true
every-all q zero i f = refl
every-all q (suc n) i f = and_both (q i) (every q n (suc i)) (f i (omega arith) (omega arith)) (every-all q n (suc i) (λ k a b. f k (omega arith) (omega arith)))

pub every-same : (q r : ℕ → Bool) (n i : ℕ) → ((k : ℕ) → i ≤ k → k < i + n → q k ≡ r k) → every q n i ≡ every r n i
every-same q r zero i f = refl
every-same q r (suc n) i f = rw (f i (omega arith) (omega arith), every-same q r n (suc i) (λ k a b. f k (omega arith) (omega arith)))

-- ---- along a loop over ten

module _ (q : ℕ → Bool) (k : ℕ) where
  pub every_more : k < 10 → q k ≡ true → every q (10 - k) k ≡ every q (10 - (k + 1)) (k + 1)
  every_more h e = go (10 - k) (10 - (k + 1)) (k + 1) (omega arith) (omega arith)
    where
      go : (a b j : ℕ) → a ≡ suc b → j ≡ suc k → every q a k ≡ every q b j
      go a b j p r = rw (p, r, e)

  pub every-stop : k < 10 → q k ≡ false → every q (10 - k) k ≡ false
  every-stop h e = go (10 - k) (10 - (k + 1)) (omega arith)
    where
      go : (a b : ℕ) → a ≡ suc b → every q a k ≡ false
      go a b p = rw (p, e)

  pub every-end : 10 ≤ k → every q (10 - k) k ≡ true
  every-end h = let e : 10 - k ≡ 0 = omega arith in rw e
