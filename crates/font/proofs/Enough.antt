-- The 96 fields that `legal` reads after the first are enough: to read on would change nothing, since codes rise and end at 126.
-- Assumes nothing.
use mathlib.Core.Path.{◌≡◌, ap}
use mathlib.Core.Bool.{true, cond, ◌&&◌}
use mathlib.Core.List.{List}
use Prim.Native.Nat.{ℕ, zero, suc, ◌+◌, ◌≤◌, ◌<◌}
use native.Mathlib.Omega.{arith}
use borrow.Author.Tests.{leb-true, ltb-true}
use lib.Dec.{leb, ltb, eqb}
use Rattle.ground.proofs.Tests.{and-true}
use Rattle.figures.proofs.Placed.{guarded}
use Rattle.font.specs.Rules.{tag_at, code_at, next_field, is_glyph, sized, coded, rows_clean, cell_height, glyph, ended, fields_from}

module _ (font : List ℕ) where
  glyph-code : (last at : ℕ) → glyph font last at ≡ true → (last < code_at font at) × (code_at font at ≤ 126)
  unfolding glyph
  glyph-code last at e =
      let a = and-true (is_glyph font at && (sized font at && coded font last at)) (rows_clean font (cell_height font) (at + 4)) e in
      let b = and-true (is_glyph font at) (sized font at && coded font last at) a.0 in
      let d = and-true (sized font at) (coded font last at) b.1 in
      let f = and-true (leb 32 (code_at font at) && leb (code_at font at) 126) (ltb last (code_at font at)) d.1 in
      let g = and-true (leb 32 (code_at font at)) (leb (code_at font at) 126) f.0 in
      (ltb-true last (code_at font at) f.1, leb-true (code_at font at) 126 g.1)

  pub fields-enough : (n m last at : ℕ) → last ≤ 126 → 127 ≤ last + n → n ≤ m → fields_from font m last at ≡ fields_from font n last at
  unfolding fields_from
  fields-enough zero m last at k h l = absurd (omega arith)
  fields-enough (suc n) zero last at k h l = absurd (omega arith)
  fields-enough (suc n) (suc m) last at k h l =
      ap (cond (eqb (tag_at font at) 255) (ended font at))
      (guarded (glyph font last at) _ _
      (λ e. let g = glyph-code last at e in fields-enough n m (code_at font at) (next_field font at) g.1 (omega arith) (omega arith)))
