-- Serves the code alone: a run of equal dots.
-- Assumes nothing.
use Rattle.std.specs.Prelude.{◌≡◌, ℕ, ◌≤◌, ◌<◌, Bool}

-- where a run of equal dots ends that starts at dot g of a row of w dots: no dot of the run differs from its first
pub record Run (row : ℕ → Bool) (g w r : ℕ) : Type 0 where
  pub more : g < r
  pub inside : r ≤ w
  pub same : (k : ℕ) → g ≤ k → k < r → row k ≡ row g
