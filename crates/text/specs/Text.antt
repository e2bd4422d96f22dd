-- A text drawn: `Ax,y,r,h,v,m,data`. "h 1..6, v 1..9 scale the cell": h along the text and v across it, before the turn. "Quarter turns r are
-- clockwise; the upper left corner of the turned box stands at x,y." "Drawing is cut at width and length."
-- Assumes nothing.
use Rattle.std.specs.Prelude.{ℕ, ◌*◌, ◌/◌, ◌%◌, Bool, true, false, cond, ◌&&◌, List, length, get_or, leb}
use Rattle.kinds.specs.Fit.{most_data}
use Rattle.dots.specs.declared.Ink.TheVariants.{Black, White}
use Rattle.dots.specs.Dots.{drawn, box}
use Rattle.figures.specs.declared.Spot.{Spot}
use Rattle.figures.specs.Figures.{bitmap}
pub use Rattle.figures.specs.Figures.{on_label}
use Rattle.font.specs.Rules.{cell_width, cell_height, row_bytes, rows_of}

-- n cells of m by d dots side by side in one box; dot u, w of cell k is cell k u w
abbrev pub side_by_side : ℕ → ℕ → ℕ → (ℕ → ℕ → ℕ → Bool) → ℕ → ℕ → Bool
side_by_side n m d cell u w = box 0 0 (n * m) d u w && cell (u / m) (u % m) w

-- the glyph of a text's byte k, each of its dots h wide and v high
abbrev pub glyph_of : List ℕ → ℕ → ℕ → List ℕ → ℕ → ℕ → ℕ → Bool
glyph_of font h v text k u w = bitmap (rows_of font (get_or text k 0)) (row_bytes font) (u / h) (w / v)

-- a cell's size, scaled
abbrev pub along : List ℕ → ℕ → ℕ
along font h = cell_width font * h

abbrev pub down : List ℕ → ℕ → ℕ
down font v = cell_height font * v

-- the glyphs of a text as a figure in its box
abbrev pub glyphs : List ℕ → ℕ → ℕ → List ℕ → ℕ → ℕ → Bool
glyphs font h v text = side_by_side (length text) (along font h) (down font v) (glyph_of font h v text)

-- "N sets glyph dots black; R sets the whole cell black, glyph dots white."
unfoldable pub in_mode : Bool → Spot → (ℕ → ℕ → Bool) → List ℕ → List ℕ
in_mode false s figure page = drawn Black (on_label s figure) page
in_mode true s figure page = drawn White (on_label s figure) (drawn Black (on_label s (box 0 0 s.wide s.high)) page)

-- the box of a text of n bytes: n times a cell's width by a cell's height, scaled
abbrev pub spot_of : ℕ → ℕ → ℕ → ℕ → ℕ → ℕ → ℕ → List ℕ → ℕ → Spot
spot_of width length x y r h v font n =
    record { corner = record { size = record { width = width; length = length }; r = r; x = x; y = y }; wide = n * along font h; high = down font v }

-- what is drawn: a text of at most 128 bytes, scaled within the limits. Any bytes are drawn from as a font is; a call refuses an illegal font before
abbrev pub drawable : ℕ → ℕ → List ℕ → Bool
drawable h v text = leb h 6 && (leb v 9 && leb (length text) most_data)

unfoldable pub text_drawn : ℕ → ℕ → ℕ → ℕ → ℕ → ℕ → ℕ → Bool → List ℕ → List ℕ → List ℕ → List ℕ
text_drawn width height x y r h v reverse font text page =
    cond (drawable h v text) (in_mode reverse (spot_of width height x y r h v font (length text)) (glyphs font h v text) page) page
