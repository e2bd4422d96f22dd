use mathlib.Core.Path.{refl}
use Rattle.calendar.specs.Clock.{last}
use Rattle.calendar.proofs.Clock.last.Goals as goal

pub returns : goal.returns
unfolding last
returns c = refl
