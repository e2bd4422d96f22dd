-- What the definition says of a small label, computed.
-- Assumes nothing.
use Rattle.std.specs.Prelude.{◌≡◌, refl, ◌∷◌, ◌++◌, replicate}
use Rattle.dots.specs.Dots.{redrawn, dot_at}
use Rattle.half_turn.specs.Turn.{turned_in, turned}

-- a label of 9 by 2: the first dot goes to the last place and back, and a dot outside is gone
turned-label : turned 9 2 (128 ∷ 1 ∷ replicate 150 0) ≡ replicate 76 0 ++ (0 ∷ 128 ∷ replicate 74 0)
unfolding turned_in redrawn dot_at
turned-label = refl
