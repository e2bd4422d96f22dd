use Rattle.calendar.specs.Clock.{legal_clock}
use Rattle.calendar.proofs.Clock.is_legal.Goals as goal

pub returns : goal.returns
unfolding legal_clock
returns c = cc
