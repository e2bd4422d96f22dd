-- Serves the code alone: a figure with margins around it in a greater box, which is turned as one. `placed-inset` of proofs/Within.antt says where it
-- stands by itself.
-- Assumes nothing.
use Rattle.std.specs.Prelude.{ℕ, zero, suc, ◌+◌, ◌-◌, ◌%◌, Bool}
use Rattle.ground.specs.Numbers.{capped}
use Rattle.figures.specs.declared.Corner.{Corner}
use Rattle.figures.specs.Figures.{standing, placed}
use Rattle.kinds.specs.declared.Place.{Place}
use Rattle.lined.specs.declared.insets.Margins.{Margins}
use Rattle.lined.specs.Lined.{left_of}

-- the margin that stands where the first of four stood, each turn bringing the next one there
abbrev pub brought : ℕ → ℕ → ℕ → ℕ → ℕ → ℕ
brought zero a b c d = a
brought (suc r) a b c d = brought r b c d a

-- the margins at the left of, and above, a figure whose box is turned r times
abbrev pub beside : ℕ → Margins → ℕ
beside r m = brought (r % 4) m.left m.bottom m.right m.top

abbrev pub above : ℕ → Margins → ℕ
above r m = brought (r % 4) m.top m.left m.bottom m.right

-- the corner of the box within, where the greater box stands at a corner
abbrev pub corner_within : Margins → Corner → Corner
corner_within m c = record { size = c.size; r = c.r; x = capped (c.x + beside c.r m); y = capped (c.y + above c.r m) }

-- a figure of w by h dots with margins, its greater box turned r times and then with its corner at (x, y)
unfoldable pub inset : ℕ → Margins → ℕ → ℕ → ℕ → ℕ → (ℕ → ℕ → Bool) → ℕ → ℕ → Bool
inset r m w h x y figure = placed r (m.left + w + m.right) (m.top + h + m.bottom) x y (standing w h m.left m.top figure)

-- the margins of a part that has some dots to spare, with rows above it and below it
abbrev pub margins_of : Place → ℕ → ℕ → ℕ → Margins
margins_of place spare top bottom = record { left = left_of place spare; top = top; right = spare - left_of place spare; bottom = bottom }
