-- Whole-number roots by halving, and the run of a disc's columns that a root gives.
-- Assumes nothing.
use mathlib.Core.Path.{◌≡◌}
use Prim.Native.Nat.{ℕ, zero, suc, ◌+◌, ◌-◌, ◌*◌, ◌/◌, ◌≤◌, ◌<◌, min}
use native.Mathlib.Nat.{mul-le-mul}
use native.Mathlib.Omega.{arith}
use lib.Dec.{leb, ltb}
use borrow.Author.Tests.{leb-true, ltb-true, le-leb, lt-ltb}
use Rattle.ground.proofs.Tests.{and-true}
use Rattle.dots.proofs.Shapes.{same_test}
use Rattle.slanted_lines.specs.declared.Span.{Span}
use Rattle.slanted_lines.specs.Slanted.{gap, squared}
use Rattle.slanted_lines.specs.Code.{Root, Around, Disc}
use Rattle.slanted_lines.proofs.Gaps.{gap-at-most, at-most-gap, square-lt}
use Rattle.slanted_lines.proofs.Past.{row-end}

-- ---- the root: `step` is cut to `rest` where the root is at or above the middle, and below it
pub raised-above : (n r half rest : ℕ) → (r + half) * (r + half) ≤ n → n < (r + (half + rest)) * (r + (half + rest)) → Around n (r + half) rest
raised-above n r half rest h k = record { low = h; high = omega arith }

pub raised_below : (n r half rest : ℕ) → r * r ≤ n → n < (r + half) * (r + half) → half ≤ rest → Around n r rest
raised_below n r half rest h k i =
    let z : r + half ≤ r + rest = omega arith in
    record { low = h; high = omega (arith, mul-le-mul z z) }

pub root-found : (n r step bound : ℕ) → Around n r step → r + step ≤ bound → step ≤ 1 → Root n r × (r < bound)
root-found n r zero bound A f h = absurd (let z : ⊥ = omega (arith, A.low, A.high) in z)
root-found n r (suc zero) bound A f h = (record { low = A.low; high = A.high }, omega arith)
root-found n r (suc (suc step)) bound A f h = absurd (let z : ⊥ = omega arith in z)

-- ---- the disc about (a, b), in a row that is g rows from b
in-disc : (c u g half : ℕ) → Root ((c * c - 2 * g * (2 * g)) / 4) half → 4 * (u * u + g * g) ≤ c * c → u ≤ half
in-disc c u g half R h = omega (arith, square-lt u (half + 1) (omega (arith, R.high)))

disc-in : (c u g half : ℕ) → Root ((c * c - 2 * g * (2 * g)) / 4) half → 2 * g ≤ c → u ≤ half → 4 * (u * u + g * g) ≤ c * c
disc-in c u g half R k h = omega (arith, mul-le-mul h h, mul-le-mul k k, R.low)

pub disc-run : (c a b y right v half : ℕ) (s : Span) → v ≡ 2 * gap y b → v ≤ c → Root ((c * c - v * v) / 4) half → s.from ≡ min (a - half) right
    → s.to ≡ min (a + half + 1) right → Disc c a b y right s
unfolding squared
disc-run c a b y right v half s ev h R ef et = record {
  ordered = omega arith;
  cut_off = omega arith;
  columns = λ x z. same_test _ _
      (λ k. let i = at-most-gap x a half (in-disc c (gap x a) (gap y b) half root (leb-true _ _ k)) in
      rw (le-leb s.from x (omega arith), lt-ltb x s.to (omega arith)))
      (λ k. let i = and-true (leb s.from x) (ltb x s.to) k in
      let f = leb-true s.from x i.0 in
      let t = ltb-true x s.to i.1 in
      le-leb _ _ (disc-in c (gap x a) (gap y b) half root (omega arith) (gap-at-most x a half (omega arith) (omega arith))));
}
  where
    root : Root ((c * c - 2 * gap y b * (2 * gap y b)) / 4) half
    root = rw ev at R

-- a row farther than half of c from b has none
pub no-disc : (c a b y right : ℕ) (s : Span) → c < 2 * gap y b → s.from ≡ 0 → s.to ≡ 0 → Disc c a b y right s
unfolding squared
no-disc c a b y right s h ef et = record {
  ordered = omega arith;
  cut_off = omega arith;
  columns = λ x z. same_test _ _
      (λ k. absurd (let w : ⊥ = omega (arith, row-end c (gap x a) (gap y b) (leb-true _ _ k)) in w))
      (λ k. absurd (let t = ltb-true x s.to (and-true (leb s.from x) (ltb x s.to) k).1 in let w : ⊥ = omega arith in w));
}
