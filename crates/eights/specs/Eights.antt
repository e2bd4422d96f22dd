-- Serves the code alone: the dots of a byte as a shape that is drawn at once.
-- Assumes nothing.
use Rattle.std.specs.Prelude.{ℕ, ◌+◌, ◌-◌, Bool, ◌&&◌}
use Rattle.dots.specs.Dots.{bit_of, box}

-- the eight dots of the byte m, from x on, in each row from y0 up to, not including, y1
unfoldable pub eights : ℕ → ℕ → ℕ → ℕ → ℕ → ℕ → Bool
eights x y0 y1 m a b = box x y0 (x + 8) y1 a b && bit_of m (a - x)
