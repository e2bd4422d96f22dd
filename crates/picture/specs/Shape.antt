-- A picture's dots on a page, by paper 01's line on GG: "black dots set, others left".
-- Assumes nothing.
use Rattle.std.specs.Prelude.{ℕ, ◌+◌, ◌-◌, ◌/◌, ◌%◌, Bool, not, ◌&&◌, List}
use Rattle.dots.specs.Dots.{box, bit_of}
use Rattle.pcx.specs.Rules.{width, height, line_byte, legal}

-- "Zero bits are black": dot u of line v
abbrev pub dark : List ℕ → ℕ → ℕ → Bool
dark bytes u v = not (bit_of (line_byte bytes v (u / 8)) (u % 8))

-- the shape of a picture whose upper left corner is at x, y: of each line the first width bits. What is no legal picture has no dot
unfoldable pub pictured : List ℕ → ℕ → ℕ → ℕ → ℕ → Bool
pictured bytes x y a b = legal bytes && (box x y (x + width bytes) (y + height bytes) a b && dark bytes (a - x) (b - y))
