-- Paper 01, "`Xa,b,c,d,e` black frame": what a frame is. A box is `box` of dots/Dots.
-- Assumes nothing.
use Rattle.std.specs.Prelude.{ℕ, ◌+◌, ◌-◌, min, max, Bool, not, ◌&&◌}
use Rattle.dots.specs.Dots.{box}

-- a box less the box that is shrunk by c on each side
abbrev pub hollow : ℕ → ℕ → ℕ → ℕ → ℕ → ℕ → ℕ → Bool
hollow c x0 y0 x1 y1 x y = box x0 y0 x1 y1 x y && not (box (x0 + c) (y0 + c) (x1 - c) (y1 - c) x y)

-- "Dots from the lesser coordinate up to, not including, the greater, less the rectangle shrunk by c on each side."
abbrev pub frame : ℕ → ℕ → ℕ → ℕ → ℕ → ℕ → ℕ → Bool
frame a b c d e = hollow c (min a d) (min b e) (max a d) (max b e)
