use borrow.Author.Tests.{eq-eqb, ne_eqb}
use Rattle.words.proofs.passed.Goals as goal

pub returns-then-b-eq10 : goal.returns-then-b-eq10
returns-then-b-eq10 c = rw (eq-eqb _ _ c.if-b-eq10.true) c.less.ensures

pub returns-else-b-eq10 : goal.returns-else-b-eq10
returns-else-b-eq10 c = rw (ne_eqb _ _ c.if-b-eq10.false)
