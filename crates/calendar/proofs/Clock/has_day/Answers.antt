use Rattle.kinds.proofs.Laws.{between-below, between-from}
use Rattle.calendar.proofs.Clock.has_day.Goals as goal

pub returns-then-self-lt1 : goal.returns-then-self-lt1
returns-then-self-lt1 c = rw (between-below 1 _ _ c.if-self-lt1.true)

pub returns : goal.returns
returns c = rw (between-from 1 _ _ c.if-self-lt1.false, ← c.days.ensures, c.wide.ensures)
