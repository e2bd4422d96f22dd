-- A font as it is written: its fields one after the other. What `legal` takes is exactly what is written so from a cell's size and glyphs that
-- keep the rules: `written-legal` and `legal-written` of proofs/Writing.antt.
-- Assumes nothing.
use Rattle.std.specs.Prelude.{ℕ, ◌+◌, ◌-◌, ◌*◌, ◌/◌, ◌%◌, ◌^◌, ◌≤◌, ◌<◌, ◌≡◌, List, [], ◌∷◌, ◌++◌, length, get_or}

-- "fields of one tag byte, two length bytes (low first), content"
abbrev pub field : ℕ → List ℕ → List ℕ
field tag content = tag ∷ length content % 256 ∷ length content / 256 ∷ content

-- "Tag 1 first, once: cell width 1 to 32, height 1 to 64"
pub record Cell : Type 0 where
  pub width : ℕ
  pub height : ℕ

pub record CellKept (c : Cell) : Type 0 where
  pub wide : 1 ≤ c.width
  pub narrow : c.width ≤ 32
  pub high : 1 ≤ c.height
  pub low : c.height ≤ 64

-- "tag 2: code 32 to 126, then height rows of whole bytes, highest bit first, spare bits zero; codes strictly rise"
pub record Glyph : Type 0 where
  pub code : ℕ
  pub rows : List ℕ

-- the whole bytes of a row
abbrev pub bytes_of : Cell → ℕ
bytes_of c = (c.width + 7) / 8

pub record GlyphKept (c : Cell) (last : ℕ) (g : Glyph) : Type 0 where
  pub least : 32 ≤ g.code
  pub most : g.code ≤ 126
  pub rises : last < g.code
  pub whole : length g.rows ≡ c.height * bytes_of c
  pub spare : (k : ℕ) → k < c.height → get_or g.rows (k * bytes_of c + bytes_of c - 1) 0 % 2 ^ (bytes_of c * 8 - c.width) ≡ 0

abbrev pub GlyphsKept : Cell → ℕ → List Glyph → Type 0
GlyphsKept c last [] = Unit {0}
GlyphsKept c last (g ∷ gs) = GlyphKept c last g × GlyphsKept c g.code gs

-- the fields of the glyphs, and "Last tag 255, length 0, then nothing"
unfoldable pub glyph_fields : List Glyph → List ℕ
glyph_fields [] = field 255 []
glyph_fields (g ∷ gs) = field 2 (g.code ∷ g.rows) ++ glyph_fields gs

abbrev pub written : Cell → List Glyph → List ℕ
written c gs = field 1 (c.width ∷ c.height ∷ []) ++ glyph_fields gs
