-- What the command line says. Assumes nothing.
use Rattle.std.specs.Prelude.{Bool, false, ℕ, Option, None, Some, ltb, ◌+◌}
use Rattle.ground.specs.Numbers.{capped}

-- whether more than one argument stands from the first file on, up to count
unfoldable pub are_several : Option ℕ → ℕ → Bool
are_several None count = false
are_several (Some first) count = ltb (capped (first + 1)) count
