-- What the definitions say of calls between labels, computed.
-- Assumes nothing.
use Rattle.std.specs.Prelude.{◌≡◌, refl, [], ◌∷◌}
use Rattle.lent.specs.Lent.{World, world}
use Rattle.keeps_sound.specs.Calls.{command}
use Rattle.demands.specs.Labels.{labels_in}

-- nothing is lent
abbrev nothing : World
nothing = world [] [] [] [] []

-- a command call is no label
none : labels_in nothing (command [] [] [] ∷ []) ≡ 0
none = refl
