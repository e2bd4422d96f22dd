use borrow.Author.Tests.{lt-leb, le-leb}
use Rattle.row_limits.proofs.is_day.Goals as goal

pub returns-then-year-gt99 : goal.returns-then-year-gt99
returns-then-year-gt99 c = rw (lt-leb _ 99 c.if-year-gt99.true)

pub returns : goal.returns
returns c = rw (le-leb _ 99 c.if-year-gt99.false, c.days_in.ensures)
