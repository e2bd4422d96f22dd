-- Each code of the font of a drawing has the rows of its cell.
-- Assumes nothing.
use mathlib.Core.Path.{◌≡◌, refl, sym, ap, ◌∙◌}
use mathlib.Core.Bool.{Bool, true, false, cond}
use mathlib.Core.List.{List, [], ◌∷◌, ◌++◌}
use Prim.Native.Nat.{ℕ, zero, suc, ◌+◌, ◌*◌, ◌/◌, ◌%◌, ◌≤◌, ◌<◌}
use Prim.Native.String.{String}
use native.Mathlib.Decide.{dec_lt}
use native.Mathlib.Omega.{arith}
use borrow.Author.Tests.{eq-eqb, ne_eqb}
use lib.ListN.{length, get_or, take, drop}
use lib.Seq.{get_or-drop, drop-drop, drop_at, take_at}
use lib.Dec.{eqb}
use Rattle.font.specs.Rules.{tag_at, code_at, next_field, place_from, rows_of}
use Rattle.font.specs.Written.{glyph_fields}
use Rattle.plainfont.specs.Plain.{rows_at, glyph_at, glyphs_from, font_of, plain}
use Rattle.plainfont.specs.Drawing.{drawing}
use Rattle.plainfont.proofs.Promise.{length-rows_at}

module _ (font : List ℕ) (sheet : List String) (at k n : ℕ) (e : drop at font ≡ glyph_fields (glyphs_from sheet k (suc n))) where
  abbrev rows : List ℕ
  rows = (glyph_at sheet k).rows

  abbrev rest : List ℕ
  rest = glyph_fields (glyphs_from sheet (k + 1) n)

  abbrev size : ℕ
  size = suc (length rows)

  is : drop at font ≡ 2 ∷ size % 256 ∷ size / 256 ∷ (32 + k) ∷ (rows ++ rest)
  unfolding glyph_fields glyphs_from
  is = e

  byte : (i : ℕ) → get_or font (at + i) 0 ≡ get_or (2 ∷ size % 256 ∷ size / 256 ∷ (32 + k) ∷ (rows ++ rest)) i 0
  byte i = sym (get_or-drop at font i 0) ∙ ap (λ (l : List ℕ). get_or l i 0) is

  tag-two : tag_at font at ≡ 2
  tag-two = let z : at ≡ at + 0 = omega arith in ap (λ (i : ℕ). get_or font i 0) z ∙ byte 0

  code-next : code_at font at ≡ 32 + k
  code-next = byte 3

  behind : (i : ℕ) → drop (at + i) font ≡ drop i (2 ∷ size % 256 ∷ size / 256 ∷ (32 + k) ∷ (rows ++ rest))
  behind i = sym (drop-drop i at font) ∙ ap (drop i) is

  rows-here : take 16 (drop (at + 4) font) ≡ rows
  rows-here = ap (take 16) (behind 4) ∙ take_at rows rest 16 (length-rows_at _ _ 16)

  rest-next : drop (next_field font at) font ≡ rest
  rest-next =
      let l = length-rows_at (drop (k / 16 * 16) sheet) (k % 16 * 9) 16 in
      let a = byte 1 in
      let b = byte 2 in
      let i : next_field font at ≡ at + 4 + 16 = omega arith in
      ap (λ (m : ℕ). drop m font) i ∙ sym (drop-drop 16 (at + 4) font) ∙ ap (drop 16) (behind 4) ∙ drop_at rows rest 16 l

module _ (font : List ℕ) (sheet : List String) where
  -- the cell asked for is this one, or one behind it
  one_of : (n k j at : ℕ) → k ≤ j → drop at font ≡ glyph_fields (glyphs_from sheet k (suc n)) → Dec (k < j)
      → (k < j → take 16 (drop (place_from font (32 + j) n (next_field font at)) font) ≡ (glyph_at sheet j).rows)
      → take 16 (drop (place_from font (32 + j) (suc n) at) font) ≡ (glyph_at sheet j).rows
  unfolding place_from
  one_of n k j at l e (yes h) later =
      rw (eq-eqb (tag_at font at) 2 (tag-two font sheet at k n e), code-next font sheet at k n e, ne_eqb (32 + k) (32 + j) (λ q. omega arith)) (later h)
  one_of n k j at l e (no h) later =
      let i : k ≡ j = omega arith in
      rw (eq-eqb (tag_at font at) 2 (tag-two font sheet at k n e), code-next font sheet at k n e, eq-eqb (32 + k) (32 + j) (omega arith))
      (rows-here font sheet at k n e ∙ ap (λ (x : ℕ). (glyph_at sheet x).rows) i)

  found : (n k j at : ℕ) → k + n ≡ 95 → k ≤ j → j < 95 → drop at font ≡ glyph_fields (glyphs_from sheet k n)
      → take 16 (drop (place_from font (32 + j) n at) font) ≡ (glyph_at sheet j).rows
  found zero k j at s l m e = absurd (omega arith)
  found (suc n) k j at s l m e =
      one_of n k j at l e (dec_lt k j)
      (λ h. found n (k + 1) j (next_field font at) (omega arith) (omega arith) m (rest-next font sheet at k n e))

module _ (sheet : List String) where
  pub rows-font_of : (k : ℕ) → k < 95 → rows_of (font_of sheet) (32 + k) ≡ rows_at (drop (k / 16 * 16) sheet) (k % 16 * 9) 16
  unfolding rows_of font_of
  rows-font_of k l = found (font_of sheet) sheet 95 0 k 5 (omega arith) (omega arith) l refl

pub rows-plain : (k : ℕ) → k < 95 → rows_of plain (32 + k) ≡ rows_at (drop (k / 16 * 16) drawing) (k % 16 * 9) 16
rows-plain = rows-font_of drawing
