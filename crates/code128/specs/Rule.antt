-- Paper 01, "The bar tables": "widths 1 to 4, sum 11, bars even, rows distinct", asked of row v of Code 128.
-- Assumes nothing.
use Rattle.std.specs.Prelude.{◌≡◌, ℕ, ◌+◌, ◌%◌, ◌≤◌, ◌<◌, get_or}
use Rattle.code128.specs.Widths.{sum}
use Rattle.code128.specs.Code128.{six}

pub record Row (v : ℕ) : Type 0 where
  pub each : (j : ℕ) → j < 6 → (1 ≤ get_or (six v) j 0) × (get_or (six v) j 0 ≤ 4)
  pub modules : sum (six v) ≡ 11
  pub bars : (get_or (six v) 0 0 + get_or (six v) 2 0 + get_or (six v) 4 0) % 2 ≡ 0
  pub apart : (u : ℕ) → u < v → six u ≡ six v → ⊥
