-- Figures: dots of their own in a box, which stand on a page scaled and turned. A glyph and a row of bars are figures.
-- Dot (u, v) of a figure is u to the right of the upper left corner of its box and v below it.
-- Assumes nothing.
use Rattle.std.specs.Prelude.{ℕ, zero, suc, ◌+◌, ◌-◌, ◌*◌, ◌/◌, ◌%◌, Bool, ◌&&◌, List, get_or, leb, ltb}
use Rattle.dots.specs.Dots.{box, bit_of, cut}
use Rattle.figures.specs.declared.Spot.{Spot}

-- ---- turns
-- a figure in a box h dots high, turned once clockwise: dot (u, v) of the box goes to (h-1-v, u)
abbrev pub quarter : ℕ → (ℕ → ℕ → Bool) → ℕ → ℕ → Bool
quarter h figure u v = figure v (h - 1 - u)

-- the shape of a figure in a box of w by h dots whose upper left corner stands at (x, y); of the figure only the dots in the box are seen
abbrev pub standing : ℕ → ℕ → ℕ → ℕ → (ℕ → ℕ → Bool) → ℕ → ℕ → Bool
standing w h x y figure a b = ((leb x a && leb y b) && (ltb (a - x) w && ltb (b - y) h)) && figure (a - x) (b - y)

-- the figure turned r times, and then standing there
abbrev pub turned_by : ℕ → ℕ → ℕ → ℕ → ℕ → (ℕ → ℕ → Bool) → ℕ → ℕ → Bool
turned_by zero w h x y figure = standing w h x y figure
turned_by (suc r) w h x y figure = turned_by r h w x y (quarter h figure)

-- "Quarter turns r are clockwise; the upper left corner of the turned box stands at x,y." Four of them are none
abbrev pub placed : ℕ → ℕ → ℕ → ℕ → ℕ → (ℕ → ℕ → Bool) → ℕ → ℕ → Bool
placed r w h x y figure = turned_by (r % 4) w h x y figure

-- where a figure in the box of a spot is seen: "Drawing is cut at width and length."
abbrev pub on_label : Spot → (ℕ → ℕ → Bool) → ℕ → ℕ → Bool
on_label s figure = cut s.corner.size.width s.corner.size.length (placed s.corner.r s.wide s.high s.corner.x s.corner.y figure)

-- ---- bitmaps
-- dot u of the row of a bitmap that starts at byte `at`, highest bit first; past the end there is no dot
abbrev pub bit_row : List ℕ → ℕ → ℕ → Bool
bit_row bytes at u = bit_of (get_or bytes (at + u / 8) 0) (u % 8)

-- dot u of row v of a bitmap whose rows are of `stride` bytes
abbrev pub bitmap : List ℕ → ℕ → ℕ → ℕ → Bool
bitmap bytes stride u v = bit_row bytes (v * stride) u

-- a row of w dots, each hm dots wide, as the rows v0 up to v1 of a figure
abbrev pub row_of : (ℕ → Bool) → ℕ → ℕ → ℕ → ℕ → ℕ → ℕ → Bool
row_of row w hm v0 v1 u v = box 0 v0 (w * hm) v1 u v && row (u / hm)

-- a bitmap of w by h dots, each of which is hm dots wide and vm high: "h 1..6, v 1..9 scale the cell"
abbrev pub scaled : ℕ → ℕ → ℕ → ℕ → (ℕ → ℕ → Bool) → ℕ → ℕ → Bool
scaled w h hm vm picture u v = box 0 0 (w * hm) (h * vm) u v && picture (u / hm) (v / vm)

-- a figure that starts d dots to the right of the corner
abbrev pub shifted : ℕ → (ℕ → ℕ → Bool) → ℕ → ℕ → Bool
shifted d figure u v = leb d u && figure (u - d) v
