-- What the definition says of R after R, computed.
-- Assumes nothing.
use Rattle.std.specs.Prelude.{◌≡◌, refl}
use Rattle.grammar.specs.declared.Item.TheVariants.{Origin}
use Rattle.carried.specs.Carried.{place, origin_after}

-- "It replaces the earlier one": R after R
case-origin : origin_after (place 10 20) (Origin (place 1 2)) ≡ place 1 2
case-origin = refl
