-- In the rows between the ends, farther than half of c from both, a dot is near just where the cross product is at most r, the whole-number root of a
-- quarter of c squared times the length squared. There the foot lies between the ends: were it past one, with the dot u rows inside, the
-- cross product would be at least u times the length.
-- Assumes nothing.
use mathlib.Core.Path.{◌≡◌, ◌∙◌}
use mathlib.Core.Bool.{true}
use mathlib.Core.Logic.{◌⊎◌, inl, inr}
use Prim.Native.Nat.{ℕ, ◌+◌, ◌*◌, ◌/◌, ◌≤◌, ◌<◌}
use native.Mathlib.Nat.{mul-le-mul, mul-le-mul_left}
use native.Mathlib.Decide.{dec_lt}
use native.Mathlib.Omega.{arith}
use lib.Dec.{leb}
use borrow.Author.Tests.{leb-true, le-leb}
use Rattle.dots.proofs.Shapes.{same_test}
use Rattle.slanted_lines.specs.Slanted.{gap, squared, cross, near}
use Rattle.slanted_lines.specs.Code.{Root}
use Rattle.slanted_lines.proofs.Gaps.{Apart, apart, gap_by, gap-sym, gap_same, square-lt}
use Rattle.slanted_lines.proofs.Near.{NearTold, near-test, between_ends, near-told, squared-sym, cross-sym}
use Rattle.slanted_lines.proofs.Past.{past-enough, cross-right, cross-left, row-end}

-- ---- the foot
-- the columns x of the dot, k of an end and f of the other: p, q and m apart. The foot is not past the end where x and f are on one side of k
feet-together : (p q m u v : ℕ) → Apart q m p → 0 < u → q * q + u * u + (m * m + (u + v) * (u + v)) ≤ p * p + v * v → ⊥
feet-together p q m u v (inl e) h s = let t = rw e at s in omega (arith, mul-le-mul_left u h)
feet-together p q m u v (inr e) h s = let t = rw e at s in omega (arith, mul-le-mul_left u h)

feet-apart : (p q m u v : ℕ) → p ≡ q + m → q * q + u * u + (m * m + (u + v) * (u + v)) ≤ p * p + v * v → u * (u + v) ≤ q * m
feet-apart p q m u v e s = let t = rw e at s in omega arith

foot-past : (x f k u v c p q m w : ℕ) → Apart x f p → Apart x k q → Apart k f m → 0 < u → q * q + u * u + (m * m + (u + v) * (u + v)) ≤ p * p + v * v
    → w ≡ gap (x * (u + v) + u * k) (k * (u + v) + u * f) → 4 * (w * w) ≤ c * c * (m * m + (u + v) * (u + v)) → 2 * u ≤ c
foot-past x f k u v c p q m w i g h z s e t = at i g h
  where
    done : p ≡ q + m → gap (x * (u + v) + u * k) (k * (u + v) + u * f) ≡ q * (u + v) + u * m → 2 * u ≤ c
    done j y = past-enough u (u + v) q m c (feet-apart p q m u v j s) (omega (arith, mul-le-mul_left u z)) (rw (e ∙ y) at t)

    at : Apart x f p → Apart x k q → Apart k f m → 2 * u ≤ c
    at (inl i) (inl g) (inl h) = done (omega arith) (cross-right x k k f u (u + v) q m g h)
    at (inr i) (inl g) (inl h) = done (omega arith) (cross-right x k k f u (u + v) q m g h)
    at (inl i) (inr g) (inr h) = done (omega arith) (cross-left x k k f u (u + v) q m g h)
    at (inr i) (inr g) (inr h) = done (omega arith) (cross-left x k k f u (u + v) q m g h)
    at (inl i) (inl g) (inr h) = absurd (feet-together p q m u v (inl (omega arith)) z s)
    at (inr i) (inl g) (inr h) = absurd (feet-together p q m u v (inr (omega arith)) z s)
    at (inl i) (inr g) (inl h) = absurd (feet-together p q m u v (inr (omega arith)) z s)
    at (inr i) (inr g) (inl h) = absurd (feet-together p q m u v (inl (omega arith)) z s)

-- ---- the rows
-- row y lies between the rows b and e of the ends, u rows from the one and v from the other: downward, or upward
abbrev pub Inside : ℕ → ℕ → ℕ → ℕ → ℕ → Type 0
Inside b e y u v = ((y ≡ b + u) × (e ≡ y + v)) ⊎ ((b ≡ y + u) × (y ≡ e + v))

pub inside-gaps : (b e y u v : ℕ) → Inside b e y u v → (gap y b ≡ u) × (gap y e ≡ v) × (gap b e ≡ u + v)
inside-gaps b e y u v (inl (i, j)) = (gap_by y b u (inl i), gap_by y e v (inr j), gap_by b e (u + v) (inr (omega arith)))
inside-gaps b e y u v (inr (i, j)) = (gap_by y b u (inr i), gap_by y e v (inl j), gap_by b e (u + v) (inl (omega arith)))

cross-inside : (a b d e x y u v : ℕ) → Inside b e y u v → cross a b d e x y ≡ gap (x * (u + v) + u * a) (a * (u + v) + u * d)
unfolding cross
cross-inside a b d e x y u v (inl (i, j)) = rw (j, i) (gap_same _ _ (x * (u + v) + u * a) (a * (u + v) + u * d) (omega arith))
cross-inside a b d e x y u v (inr (i, j)) = rw (i, j) (gap-sym _ _ ∙ gap_same _ _ (x * (u + v) + u * a) (a * (u + v) + u * d) (omega arith))

foot-inside : (a b c d e x y u v : ℕ) → Inside b e y u v → c < 2 * u → 4 * (cross a b d e x y * cross a b d e x y) ≤ c * c * squared a b d e
    → squared x y d e < squared x y a b + squared a b d e
unfolding squared
foot-inside a b c d e x y u v I h k = at (dec_lt (squared x y d e) (squared x y a b + squared a b d e))
  where
    g : (gap y b ≡ u) × (gap y e ≡ v) × (gap b e ≡ u + v)
    g = inside-gaps b e y u v I

    at : Dec (squared x y d e < squared x y a b + squared a b d e) → squared x y d e < squared x y a b + squared a b d e
    at (yes s) = s
    at (no s) =
        let t : squared x y a b + squared a b d e ≤ squared x y d e = omega arith in
        let z = foot-past x d a u v c (gap x d) (gap x a) (gap a d) (cross a b d e x y) (apart x d) (apart x a) (apart a d) (omega arith)
        (rw (g.0, g.1, g.2) at t) (cross-inside a b d e x y u v I) (rw g.2 at k) in
        absurd (let q : ⊥ = omega arith in q)

-- ---- the test
-- that the cross product is at most the root is the test between the ends
module _ (c l w r : ℕ) (R : Root (c * c * l / 4) r) where
  pub small-in-strip : 4 * (w * w) ≤ c * c * l → w ≤ r
  small-in-strip h = omega (arith, square-lt w (r + 1) (omega (arith, h, R.high)))

  pub strip-small : w ≤ r → 4 * (w * w) ≤ c * c * l
  strip-small h = omega (arith, mul-le-mul h h, R.low)

module _ (a b c d e x y u v r : ℕ) (I : Inside b e y u v) (hu : c < 2 * u) (hv : c < 2 * v) (R : Root (c * c * squared a b d e / 4) r) where
  small : near a b c d e x y ≡ true → cross a b d e x y ≤ r
  unfolding squared
  small h = at (near-told a b c d e x y h)
    where
      g : (gap y b ≡ u) × (gap y e ≡ v) × (gap b e ≡ u + v)
      g = inside-gaps b e y u v I

      at : NearTold a b c d e x y → cross a b d e x y ≤ r
      at (inl k) = absurd (let z : ⊥ = omega (arith, row-end c (gap x a) u (rw g.0 at k)) in z)
      at (inr (inl k)) = absurd (let z : ⊥ = omega (arith, row-end c (gap x d) v (rw g.1 at k)) in z)
      at (inr (inr k)) = small-in-strip c (squared a b d e) (cross a b d e x y) r R k.small

  enough : cross a b d e x y ≤ r → near a b c d e x y ≡ true
  enough h =
      near-test a b c d e x y
      ∙ between_ends c (squared x y a b) (squared x y d e) (squared a b d e) (cross a b d e x y) (foot-inside a b c d e x y u v I hu s) other
      ∙ le-leb _ _ s
    where
      s : 4 * (cross a b d e x y * cross a b d e x y) ≤ c * c * squared a b d e
      s = strip-small c (squared a b d e) (cross a b d e x y) r R h

      out : Inside b e y u v → Inside e b y v u
      out (inl (i, j)) = inr (j, i)
      out (inr (i, j)) = inl (j, i)

      other : squared x y a b < squared x y d e + squared a b d e
      other = rw (squared-sym a b d e) (foot-inside d e c a b x y v u (out I) hv (rw (cross-sym a b d e x y, squared-sym a b d e) at s))

  pub near-middle : near a b c d e x y ≡ leb (cross a b d e x y) r
  near-middle = same_test _ _ (λ h. le-leb _ _ (small h)) (λ h. enough (leb-true _ _ h))
