-- What the definition says of a small label, computed.
-- Assumes nothing.
use Rattle.std.specs.Prelude.{◌≡◌, refl, ◌∷◌, ◌++◌, true, false, replicate}
use Rattle.outside.specs.Outside.{white_from, white_outside}

-- a label of 9 by 2: a dot at its corner, and one beyond its width
outside-label : white_outside 9 2 (128 ∷ 1 ∷ replicate 150 0) ≡ false
unfolding white_outside white_from
outside-label = refl

-- of a label of 16 by 2 it is a dot
inside-label : white_outside 16 2 (128 ∷ 1 ∷ replicate 150 0) ≡ true
unfolding white_outside white_from
inside-label = refl

-- a dot below its length
below-label : white_outside 9 1 (replicate 76 0 ++ (128 ∷ replicate 75 0)) ≡ false
unfolding white_outside white_from
below-label = refl
