-- The rules of a font, in the order of paper 01's line on fonts. A byte past the end reads as 0.
-- Assumes nothing.
use Rattle.std.specs.Prelude.{◌≡◌, ℕ, zero, suc, ◌+◌, ◌-◌, ◌*◌, ◌/◌, ◌%◌, ◌^◌, ◌<◌, Bool, true, false, cond, ◌&&◌, List, length, get_or, take, drop, leb, ltb, eqb}

-- ---- "fields of one tag byte, two length bytes (low first), content"
abbrev pub tag_at : List ℕ → ℕ → ℕ
tag_at font at = get_or font at 0

abbrev pub size_at : List ℕ → ℕ → ℕ
size_at font at = get_or font (at + 1) 0 + get_or font (at + 2) 0 * 256

-- the first byte of the content of the field at a place: in a field of tag 2, the code
abbrev pub code_at : List ℕ → ℕ → ℕ
code_at font at = get_or font (at + 3) 0

-- the field after the one at a place
abbrev pub next_field : List ℕ → ℕ → ℕ
next_field font at = at + 3 + size_at font at

-- ---- "Tag 1 first, once: cell width 1 to 32, height 1 to 64"
abbrev pub cell_width : List ℕ → ℕ
cell_width font = get_or font 3 0

abbrev pub cell_height : List ℕ → ℕ
cell_height font = get_or font 4 0

unfoldable pub headed : List ℕ → Bool
headed font =
    (eqb (tag_at font 0) 1 && eqb (size_at font 0) 2)
    && ((leb 1 (cell_width font) && leb (cell_width font) 32) && (leb 1 (cell_height font) && leb (cell_height font) 64))

-- ---- "Then tag 2: code 32 to 126, then height rows of whole bytes, highest bit first, spare bits zero; codes strictly rise"
-- the whole bytes of a row
abbrev pub row_bytes : List ℕ → ℕ
row_bytes font = (cell_width font + 7) / 8

-- the spare bits of a row are the low ones of its last byte
abbrev pub spare_bits : List ℕ → ℕ
spare_bits font = row_bytes font * 8 - cell_width font

-- the row at a place has its spare bits zero
abbrev pub row_clean : List ℕ → ℕ → Bool
row_clean font at = eqb (get_or font (at + row_bytes font - 1) 0 % 2 ^ spare_bits font) 0

-- so have n rows from a place on
unfoldable pub rows_clean : List ℕ → ℕ → ℕ → Bool
rows_clean font zero at = true
rows_clean font (suc n) at = row_clean font at && rows_clean font n (at + row_bytes font)

abbrev pub is_glyph : List ℕ → ℕ → Bool
is_glyph font at = eqb (tag_at font at) 2

-- a glyph has a code and its rows
abbrev pub sized : List ℕ → ℕ → Bool
sized font at = eqb (size_at font at) (1 + cell_height font * row_bytes font)

-- its code is one of 32 to 126, and above the last one
abbrev pub coded : List ℕ → ℕ → ℕ → Bool
coded font last at = (leb 32 (code_at font at) && leb (code_at font at) 126) && ltb last (code_at font at)

-- the field at a place is such a glyph
unfoldable pub glyph : List ℕ → ℕ → ℕ → Bool
glyph font last at = (is_glyph font at && (sized font at && coded font last at)) && rows_clean font (cell_height font) (at + 4)

-- ---- "Last tag 255, length 0, then nothing"
abbrev pub ended : List ℕ → ℕ → Bool
ended font at = eqb (size_at font at) 0 && eqb (at + 3) (length font)

-- the fields from a place on are glyphs whose codes rise from the last one on, and the last field: at most n in all
unfoldable pub fields_from : List ℕ → ℕ → ℕ → ℕ → Bool
fields_from font zero last at = false
fields_from font (suc n) last at =
    cond (eqb (tag_at font at) 255) (ended font at) (glyph font last at && fields_from font n (code_at font at) (next_field font at))

-- a legal font. Codes from 32 to 126 that strictly rise are at most 95, so the fields after the first are at most 96
unfoldable pub legal : List ℕ → Bool
legal font = headed font && fields_from font 96 31 5

-- ---- the rows of a code
-- where they stand: behind the code in the field that has it. "A missing code draws as blank": it has no rows, at the font's end
unfoldable pub place_from : List ℕ → ℕ → ℕ → ℕ → ℕ
place_from font code zero at = length font
place_from font code (suc n) at =
    cond (is_glyph font at) (cond (eqb (code_at font at) code) (at + 4) (place_from font code n (next_field font at))) (length font)

unfoldable pub rows_of : List ℕ → ℕ → List ℕ
rows_of font code = take (cell_height font * row_bytes font) (drop (place_from font code 95 5) font)

-- serves the code alone: the places of all codes, found field by field: 0 where none is found yet, and then the n fields from `at` on decide
pub record Places (font places : List ℕ) (n at : ℕ) : Type 0 where
  pub all : length places ≡ 256
  pub right : (code : ℕ) → code < 256 → cond (eqb (get_or places code 0) 0) (place_from font code n at) (get_or places code 0) ≡ place_from font code 95 5
