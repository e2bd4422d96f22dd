-- Widths of elements side by side. A row of a table is a number whose digits are the widths of a symbol's elements, in their order from the left.
-- Assumes nothing.
use Rattle.std.specs.Prelude.{ℕ, zero, suc, ◌+◌, ◌/◌, ◌%◌, List, [], ◌∷◌, ◌++◌}

-- the n digits of r, the highest first
unfoldable pub digits : ℕ → ℕ → List ℕ
digits zero r = []
digits (suc n) r = digits n (r / 10) ++ (r % 10 ∷ [])

-- what f gives for each, side by side
unfoldable pub each : (ℕ → List ℕ) → List ℕ → List ℕ
each f [] = []
each f (b ∷ s) = f b ++ each f s

-- the total width
unfoldable pub sum : List ℕ → ℕ
sum [] = 0
sum (w ∷ ws) = w + sum ws
