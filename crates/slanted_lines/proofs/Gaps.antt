-- Numbers and how far they are apart, and squares of them.
-- Assumes nothing.
use mathlib.Core.Path.{◌≡◌}
use mathlib.Core.Logic.{◌⊎◌, inl, inr}
use Prim.Native.Nat.{ℕ, ◌+◌, ◌-◌, ◌*◌, ◌≤◌, ◌<◌}
use native.Mathlib.Nat.{mul-le-mul}
use native.Mathlib.Decide.{dec_lt}
use native.Mathlib.Omega.{arith}
use Rattle.slanted_lines.specs.Slanted.{gap}

-- ---- `gap`
pub gap-sym : (m n : ℕ) → gap m n ≡ gap n m
unfolding gap
gap-sym m n = omega arith

-- numbers whose differences are equal
pub gap_same : (m n s t : ℕ) → m + t ≡ s + n → gap m n ≡ gap s t
unfolding gap
gap_same m n s t h = omega arith

pub gap-self : (n : ℕ) → gap n n ≡ 0
unfolding gap
gap-self n = omega arith

-- two numbers are at most k apart just where neither is more than k above the other
pub gap-at-most : (m n k : ℕ) → m ≤ n + k → n ≤ m + k → gap m n ≤ k
unfolding gap
gap-at-most m n k h i = omega arith

pub at-most-gap : (m n k : ℕ) → gap m n ≤ k → (m ≤ n + k) × (n ≤ m + k)
unfolding gap
at-most-gap m n k h = omega arith

-- numbers that are k apart: one of them is the other and k more
abbrev pub Apart : ℕ → ℕ → ℕ → Type 0
Apart m n k = (m ≡ n + k) ⊎ (n ≡ m + k)

pub apart : (m n : ℕ) → Apart m n (gap m n)
unfolding gap
apart m n = at (dec_lt m n)
  where
    at : Dec (m < n) → Apart m n ((m - n) + (n - m))
    at (yes t) = inr (omega arith)
    at (no t) = inl (omega arith)

pub gap_by : (m n k : ℕ) → Apart m n k → gap m n ≡ k
unfolding gap
gap_by m n k (inl e) = omega arith
gap_by m n k (inr e) = omega arith

-- ---- squares
pub square-lt : (m n : ℕ) → m * m < n * n → m < n
square-lt m n h = at (dec_lt m n)
  where
    at : Dec (m < n) → m < n
    at (yes t) = t
    at (no t) = let k : n ≤ m = omega arith in omega (arith, mul-le-mul k k)

pub square_le : (m n : ℕ) → m * m ≤ n * n → m ≤ n
square_le m n h = let k = square-lt m (n + 1) (omega arith) in omega arith

-- the square of a difference
pub apart-square : (m n k : ℕ) → Apart m n k → k * k + 2 * (m * n) ≡ m * m + n * n
apart-square m n k (inl e) = rw e (omega arith)
apart-square m n k (inr e) = rw e (omega arith)
