use borrow.Author.Tests.{ne_eqb}
use Rattle.calendar.proofs.Clocks.{leap-rest}
use Rattle.calendar.proofs.is_leap.Goals as goal

pub returns-then-year-eq0 : goal.returns-then-year-eq0
returns-then-year-eq0 c = rw (leap-rest _, c.if-year-eq0.true)

pub returns : goal.returns
returns c = rw (leap-rest _, ne_eqb _ 0 c.if-year-eq0.false)
