use borrow.Author.Tests.{lt-ltb, le-ltb}
use Rattle.declarations.specs.Declarations.{with_variable}
use Rattle.declarations.proofs.Declared.with_variable.Goals as goal

pub returns-then-n-lt10 : goal.returns-then-n-lt10
unfolding with_variable
returns-then-n-lt10 c = rw (lt-ltb _ 10 c.if-n-lt10.true, c.least.ensures)

pub returns-else-n-lt10 : goal.returns-else-n-lt10
unfolding with_variable
returns-else-n-lt10 c = rw (le-ltb _ 10 c.if-n-lt10.false)
