use borrow.Author.Tests.{lt-ltb, le-ltb}
use Rattle.stored_values.specs.Stored.{field_at}
use Rattle.stored_values.proofs.field_at.Goals as goal

pub returns-then-k-lt10 : goal.returns-then-k-lt10
unfolding field_at
returns-then-k-lt10 c = rw (lt-ltb _ 10 c.if-k-lt10.true, ← c.back.ensures) c.front.ensures

pub returns-else-k-lt10 : goal.returns-else-k-lt10
unfolding field_at
returns-else-k-lt10 c = rw (le-ltb _ 10 c.if-k-lt10.false) c.front-else-k-lt10.ensures
