-- The test of a dot by its three cases; a line from its other end, and with rows and columns exchanged.
-- Assumes nothing.
use mathlib.Core.Path.{◌≡◌, refl, sym, ◌∙◌}
use mathlib.Core.Bool.{Bool, true}
use mathlib.Core.Logic.{◌⊎◌, inl, inr}
use Prim.Native.Nat.{ℕ, ◌+◌, ◌*◌, ◌≤◌, ◌<◌}
use native.Mathlib.Nat.{mul-one}
use native.Mathlib.Decide.{dec_lt}
use native.Mathlib.Omega.{arith}
use lib.Dec.{leb}
use borrow.Author.Tests.{leb-true, le-leb, lt-leb}
use Rattle.slanted_lines.specs.Slanted.{squared, cross, to_segment, close, near}
use Rattle.slanted_lines.proofs.Gaps.{gap-sym, gap_same}

-- ---- the three cases of the test
-- the test with the squares p and q of the distances to the ends, the square l of the length, and the cross product w
abbrev pub test : ℕ → ℕ → ℕ → ℕ → ℕ → Bool
test c p q l w = close c (to_segment p q l w)

pub near-test : (a b c d e x y : ℕ) → near a b c d e x y ≡ test c (squared x y a b) (squared x y d e) (squared a b d e) (cross a b d e x y)
unfolding near
near-test a b c d e x y = refl

module _ (c p q l w : ℕ) where
  pub beside_first : p + l ≤ q → test c p q l w ≡ leb (4 * p) (c * c)
  beside_first h = rw (le-leb (p + l) q h, mul-one (c * c))

  pub beside-second : q < p + l → q + l ≤ p → test c p q l w ≡ leb (4 * q) (c * c)
  beside-second h k = rw (lt-leb (p + l) q h, le-leb (q + l) p k, mul-one (c * c))

  pub between_ends : q < p + l → p < q + l → test c p q l w ≡ leb (4 * (w * w)) (c * c * l)
  between_ends h k = rw (lt-leb (p + l) q h, lt-leb (q + l) p k)

-- near an end, or between the ends
pub record Between (c p q l w : ℕ) : Type 0 where
  pub first : q < p + l
  pub second : p < q + l
  pub small : 4 * (w * w) ≤ c * c * l

abbrev pub Told : ℕ → ℕ → ℕ → ℕ → ℕ → Type 0
Told c p q l w = (4 * p ≤ c * c) ⊎ ((4 * q ≤ c * c) ⊎ Between c p q l w)

told : (c p q l w : ℕ) → test c p q l w ≡ true → Told c p q l w
told c p q l w h = at (dec_lt q (p + l)) (dec_lt p (q + l))
  where
    at : Dec (q < p + l) → Dec (p < q + l) → (4 * p ≤ c * c) ⊎ ((4 * q ≤ c * c) ⊎ Between c p q l w)
    at (no s) t = inl (leb-true (4 * p) (c * c) (sym (beside_first c p q l w (omega arith)) ∙ h))
    at (yes s) (no t) = inr (inl (leb-true (4 * q) (c * c) (sym (beside-second c p q l w s (omega arith)) ∙ h)))
    at (yes s) (yes t) =
        inr (inr (record { first = s; second = t; small = leb-true (4 * (w * w)) (c * c * l) (sym (between_ends c p q l w s t) ∙ h) }))

abbrev pub NearTold : ℕ → ℕ → ℕ → ℕ → ℕ → ℕ → ℕ → Type 0
NearTold a b c d e x y = Told c (squared x y a b) (squared x y d e) (squared a b d e) (cross a b d e x y)

pub near-told : (a b c d e x y : ℕ) → near a b c d e x y ≡ true → NearTold a b c d e x y
near-told a b c d e x y h =
    told c (squared x y a b) (squared x y d e) (squared a b d e) (cross a b d e x y) (sym (near-test a b c d e x y) ∙ h)

-- ---- the ends may change places
test-sym : (c p q l w : ℕ) → test c p q l w ≡ test c q p l w
test-sym c p q l w = at (dec_lt q (p + l)) (dec_lt p (q + l))
  where
    at : Dec (q < p + l) → Dec (p < q + l) → test c p q l w ≡ test c q p l w
    at (no s) (no t) =
        beside_first c p q l w (omega arith) ∙ (let e : p ≡ q = omega arith in rw e) ∙ sym (beside_first c q p l w (omega arith))
    at (no s) (yes t) = beside_first c p q l w (omega arith) ∙ sym (beside-second c q p l w t (omega arith))
    at (yes s) (no t) = beside-second c p q l w s (omega arith) ∙ sym (beside_first c q p l w (omega arith))
    at (yes s) (yes t) = between_ends c p q l w s t ∙ sym (between_ends c q p l w t s)

pub squared-sym : (x y a b : ℕ) → squared x y a b ≡ squared a b x y
unfolding squared
squared-sym x y a b = rw (gap-sym x a, gap-sym y b)

pub cross-sym : (a b d e x y : ℕ) → cross a b d e x y ≡ cross d e a b x y
unfolding cross
cross-sym a b d e x y =
    gap-sym (x * e + y * a + b * d) (x * b + a * e + y * d)
    ∙ gap_same (x * b + a * e + y * d) (x * e + y * a + b * d) (x * b + y * d + e * a) (x * e + d * b + y * a) (omega arith)

pub near-sym : (a b c d e x y : ℕ) → near a b c d e x y ≡ near d e c a b x y
near-sym a b c d e x y =
    near-test a b c d e x y
    ∙ test-sym c (squared x y a b) (squared x y d e) (squared a b d e) (cross a b d e x y)
    ∙ (λ i. test c (squared x y d e) (squared x y a b) (squared-sym a b d e i) (cross-sym a b d e x y i))
    ∙ sym (near-test d e c a b x y)

-- ---- rows and columns may be exchanged
pub squared-turned : (x y a b : ℕ) → squared x y a b ≡ squared y x b a
unfolding squared
squared-turned x y a b = omega arith

pub cross-turned : (a b d e x y : ℕ) → cross a b d e x y ≡ cross b a e d y x
unfolding cross
cross-turned a b d e x y =
    gap-sym (x * e + y * a + b * d) (x * b + a * e + y * d)
    ∙ gap_same (x * b + a * e + y * d) (x * e + y * a + b * d) (y * d + x * b + a * e) (y * a + b * d + x * e) (omega arith)

pub near-turned : (a b c d e x y : ℕ) → near a b c d e x y ≡ near b a c e d y x
near-turned a b c d e x y =
    near-test a b c d e x y
    ∙ (λ i. test c (squared-turned x y a b i) (squared-turned x y d e i) (squared-turned a b d e i) (cross-turned a b d e x y i))
    ∙ sym (near-test b a c e d y x)
