use borrow.Author.Tests.{ne_eqb}
use Rattle.formats.specs.Formats.{unit}
use Rattle.formats.proofs.date_unit.Goals as goal

pub returns-then-is_between : goal.returns-then-is_between
unfolding unit
returns-then-is_between c = rw (← c.is_between.ensures, c.if-is_between.true)

pub returns-then-is_between-2 : goal.returns-then-is_between-2
unfolding unit
returns-then-is_between-2 c = rw (← c.is_between.ensures, c.if-is_between.false, ← c.is_between-2.ensures, c.if-is_between-2.true)

pub returns-then-x-eq5 : goal.returns-then-x-eq5
unfolding unit
returns-then-x-eq5 c = rw (← c.is_between.ensures, c.if-is_between.false, ← c.is_between-2.ensures, c.if-is_between-2.false, c.if-x-eq5.true)

pub returns-else-x-eq5 : goal.returns-else-x-eq5
unfolding unit
returns-else-x-eq5 c = rw (← c.is_between.ensures, c.if-is_between.false, ← c.is_between-2.ensures, c.if-is_between-2.false, ne_eqb _ 5 c.if-x-eq5.false)
