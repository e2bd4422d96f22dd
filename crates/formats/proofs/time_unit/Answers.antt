use Rattle.formats.specs.Formats.{unit}
use Rattle.formats.proofs.time_unit.Goals as goal

pub returns-then-is_between : goal.returns-then-is_between
unfolding unit
returns-then-is_between c = rw (← c.is_between.ensures, c.if-is_between.true)

pub returns-else-is_between : goal.returns-else-is_between
unfolding unit
returns-else-is_between c = rw (← c.is_between.ensures, c.if-is_between.false)
