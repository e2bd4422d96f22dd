-- A font from a drawing: 95 glyphs, codes 32 to 126, in cells of 8 by 16 dots, written as paper 01 lends a font.
-- Assumes nothing.
use Rattle.std.specs.Prelude.{ℕ, zero, suc, ◌+◌, ◌*◌, ◌/◌, ◌%◌, cond, List, [], ◌∷◌, drop}
use Prim.Native.String.{String, slice}
use lib.Text.{eqt}
use Rattle.font.specs.Written.{Cell, Glyph, written}
use Rattle.plainfont.specs.Drawing.{drawing}

abbrev pub cell : Cell
cell = record { width = 8; height = 16 }

-- a hash is a black dot, 1; all else, also what is not there, is a white one
abbrev pub dot : String → ℕ → ℕ
dot row at = cond (eqt (slice row at (at + 1)) "#") 1 0

-- n dots of a row from a place on, "highest bit first", behind what was read before them
unfoldable pub dots : String → ℕ → ℕ → ℕ → ℕ
dots row at zero before = before
dots row at (suc n) before = dots row (at + 1) n (before * 2 + dot row at)

-- n rows of the cell at a place of a band: a byte each
unfoldable pub rows_at : List String → ℕ → ℕ → List ℕ
rows_at band at zero = []
rows_at [] at (suc n) = 0 ∷ rows_at [] at n
rows_at (row ∷ band) at (suc n) = dots row at 8 0 ∷ rows_at band at n

-- cell k: sixteen cells to a band, a column between two, sixteen rows to a band
abbrev pub glyph_at : List String → ℕ → Glyph
glyph_at sheet k = record { code = 32 + k; rows = rows_at (drop (k / 16 * 16) sheet) (k % 16 * 9) 16 }

-- n glyphs from cell k on
unfoldable pub glyphs_from : List String → ℕ → ℕ → List Glyph
glyphs_from sheet k zero = []
glyphs_from sheet k (suc n) = glyph_at sheet k ∷ glyphs_from sheet (k + 1) n

unfoldable pub font_of : List String → List ℕ
font_of sheet = written cell (glyphs_from sheet 0 95)

-- the font of this project
abbrev pub plain : List ℕ
plain = font_of drawing
