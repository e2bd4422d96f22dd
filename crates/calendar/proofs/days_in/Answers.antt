use borrow.Author.Tests.{ne_eqb}
use Rattle.calendar.specs.Clock.{days_in}
use Rattle.calendar.proofs.days_in.Goals as goal

pub returns-then-is_leap : goal.returns-then-is_leap
unfolding days_in
returns-then-is_leap c = rw (c.if-month-eq2.true, ← c.is_leap.ensures, c.if-is_leap.true)

pub returns-then-month-eq2 : goal.returns-then-month-eq2
unfolding days_in
returns-then-month-eq2 c = rw (c.if-month-eq2.true, ← c.is_leap.ensures, c.if-is_leap.false)

pub returns-then-is_thirty : goal.returns-then-is_thirty
unfolding days_in
returns-then-is_thirty c = rw (ne_eqb _ 2 c.if-month-eq2.false, ← c.is_thirty.ensures, c.if-is_thirty.true)

pub returns : goal.returns
unfolding days_in
returns c = rw (ne_eqb _ 2 c.if-month-eq2.false, ← c.is_thirty.ensures, c.if-is_thirty.false)
