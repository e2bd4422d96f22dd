-- The two loops over ten counters.
use mathlib.Core.Path.{◌≡◌}
use mathlib.Core.List.{List, ◌∷◌}
use Prim.Native.Nat.{ℕ, zero, suc, ◌+◌, ◌-◌, ◌*◌, ◌≤◌, ◌<◌}
use native.Mathlib.Omega.{arith}
use lib.ListN.{get_or, set}
use lib.Seq.{sets}
use Rattle.counters.specs.declared.Counters.{Counters}
use Rattle.ground.proofs.Stores.{sets-append}
use Rattle.low_first.specs.Low.{number_at, bytes_of}
use Rattle.image.specs.Image.{counter_bytes}

-- ---- reading: n numbers from counter k on, into a list

abbrev pub fill : ℕ → List ℕ → ℕ → ℕ → ℕ → List ℕ → List ℕ
fill w b at zero k out = out
fill w b at (suc n) k out = fill w b at n (suc k) (set out k (number_at w b (at + 5 * k)))

module _ (w : ℕ) (b : List ℕ) (at k : ℕ) (out : List ℕ) where
  pub fill-next : k < 10 → fill w b at (10 - k) k out ≡ fill w b at (10 - (k + 1)) (k + 1) (set out k (number_at w b (at + 5 * k)))
  fill-next h = go (10 - k) (10 - (k + 1)) (k + 1) (omega arith) (omega arith)
    where
      go : (a c j : ℕ) → a ≡ suc c → j ≡ suc k → fill w b at a k out ≡ fill w b at c j (set out k (number_at w b (at + 5 * k)))
      go a c j p q = rw (p, q)

  pub fill_none : 10 ≤ k → fill w b at (10 - k) k out ≡ out
  fill_none h = let e : 10 - k ≡ 0 = omega arith in rw e

-- ---- writing: from counter k on

abbrev pub rest : List ℕ → ℕ → Counters → List ℕ
rest image k c = sets image (15 + 5 * k) (counter_bytes (10 - k) k c)

module _ (image : List ℕ) (k : ℕ) (c : Counters) where
  pub rest-next : k < 10 → rest image k c ≡ rest (sets image (15 + 5 * k) (get_or c.set k 0 ∷ bytes_of 4 (get_or c.value k 0))) (k + 1) c
  unfolding counter_bytes bytes_of
  rest-next h = go (10 - k) (10 - (k + 1)) (k + 1) (15 + 5 * k) (15 + 5 * (k + 1)) (omega arith) (omega arith) (omega arith)
    where
      go : (n m j a z : ℕ) → n ≡ suc m → j ≡ suc k → z ≡ a + 5
          → sets image a (counter_bytes n k c) ≡ sets (sets image a (get_or c.set k 0 ∷ bytes_of 4 (get_or c.value k 0))) z (counter_bytes m j c)
      go n m j a z p q e = rw (p, q, e) (sets-append image a (get_or c.set k 0 ∷ bytes_of 4 (get_or c.value k 0)) (counter_bytes m (suc k) c))

  pub rest-none : 10 ≤ k → rest image k c ≡ image
  unfolding counter_bytes
  rest-none h = let e : 10 - k ≡ 0 = omega arith in rw e
