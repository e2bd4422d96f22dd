-- What a line of a form leaves to the next.
-- Assumes nothing.
use Rattle.std.specs.Prelude.{ℕ}
use Rattle.declarations.specs.declared.Declared.{Declared}
use Rattle.declarations.specs.Declarations.{nothing}
use Rattle.grammar.specs.declared.Origin.{Origin as Place}
use Rattle.grammar.specs.declared.Item.{Item}
use Rattle.grammar.specs.declared.Item.TheVariants.{Origin, Variable, Counter, Text, Bars, Box, Frame, Slant, Picture, Format}
use Rattle.recording.specs.Judged.{declares}
use Rattle.carried.specs.declared.Carried.{Carried}

abbrev pub place : ℕ → ℕ → Place
place x y = record { x = x; y = y }

abbrev pub carried : Declared → Place → Carried
carried d o = record { declared = d; origin = o }

-- "runs the active form from the session's origin": nothing is declared before the first line. Paper 02, §10: "each label starts from the example formats"
abbrev pub starts : ℕ → ℕ → Carried
starts x y = carried nothing (place x y)

-- R "replaces the earlier one"
abbrev pub origin_after : Place → Item → Place
origin_after at (Origin o) = o
origin_after at (Variable v) = at
origin_after at (Counter c) = at
origin_after at (Text t) = at
origin_after at (Bars b) = at
origin_after at (Box r) = at
origin_after at (Frame f) = at
origin_after at (Slant l) = at
origin_after at (Picture p) = at
origin_after at (Format f) = at

-- what is left after an item
abbrev pub carries : Carried → Item → Carried
carries c it = carried (declares c.declared it) (origin_after c.origin it)
