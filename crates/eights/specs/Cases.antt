-- What the definition says of a small page, computed.
-- Assumes nothing.
use Rattle.std.specs.Prelude.{◌≡◌, refl, [], ◌∷◌, ◌++◌, replicate}
use Rattle.dots.specs.declared.Ink.TheVariants.{Black}
use Rattle.dots.specs.Dots.{redrawn, drawn}
use Rattle.eights.specs.Eights.{eights}

-- X.XX...X from dot 6 of row 1 on, of two rows; the two bytes after the last whole row stay
askew : drawn Black (eights 6 1 9 177) (replicate 154 0) ≡ replicate 76 0 ++ (2 ∷ 196 ∷ replicate 76 0)
unfolding drawn redrawn eights
askew = refl

-- what reaches past the row's end is not drawn
at-the-end : drawn Black (eights 604 0 1 255) (replicate 76 0) ≡ replicate 75 0 ++ (15 ∷ [])
unfolding drawn redrawn eights
at-the-end = refl
