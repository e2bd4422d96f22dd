-- The lowest number below a bound that passes a test.
use Rattle.std.specs.Prelude.{Bool, cond, ℕ, zero, suc}

-- the lowest of k, k + 1 .. that passes, looking at so many of them; the number after the last where none does
unfoldable pub lowest_from : (ℕ → Bool) → ℕ → ℕ → ℕ
lowest_from test k zero = k
lowest_from test k (suc left) = cond (test k) k (lowest_from test (suc k) left)

-- the lowest number below n that passes; n where none does
abbrev pub lowest : (ℕ → Bool) → ℕ → ℕ
lowest test n = lowest_from test 0 n
