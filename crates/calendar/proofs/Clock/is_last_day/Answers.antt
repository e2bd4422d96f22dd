use borrow.Author.Tests.{ne_eqb}
use Rattle.calendar.specs.Clock.{last_day}
use Rattle.calendar.proofs.Clock.is_last_day.Goals as goal

pub returns-then-self-ne99 : goal.returns-then-self-ne99
unfolding last_day
returns-then-self-ne99 c = rw (ne_eqb _ 99 c.if-self-ne99.true)

pub returns-then-self-ne12 : goal.returns-then-self-ne12
unfolding last_day
returns-then-self-ne12 c = rw (c.if-self-ne99.false, ne_eqb _ 12 c.if-self-ne12.true)

pub returns : goal.returns
unfolding last_day
returns c = rw (c.if-self-ne99.false, c.if-self-ne12.false)
