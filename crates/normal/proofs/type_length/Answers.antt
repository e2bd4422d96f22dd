use borrow.Author.Tests.{eq-eqb, ne_eqb}
use Rattle.normal.proofs.type_length.Goals as goal

pub returns-then-t-eq30 : goal.returns-then-t-eq30
returns-then-t-eq30 c = rw (eq-eqb _ 30 c.if-t-eq30.true)

pub returns-else-t-eq30 : goal.returns-else-t-eq30
returns-else-t-eq30 c = rw (ne_eqb _ 30 c.if-t-eq30.false)
