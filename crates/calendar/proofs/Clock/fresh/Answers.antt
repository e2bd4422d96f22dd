use mathlib.Core.Path.{refl}
use Rattle.calendar.specs.Clock.{fresh}
use Rattle.calendar.proofs.Clock.fresh.Goals as goal

pub returns : goal.returns
unfolding fresh
returns c = refl
