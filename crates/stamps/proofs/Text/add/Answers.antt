use borrow.Author.Tests.{lt-ltb, le-ltb}
use Rattle.stamps.specs.Laying.{added}
use Rattle.stamps.proofs.Text.add.Goals as goal

pub returns-then-n-lt14 : goal.returns-then-n-lt14
unfolding added
returns-then-n-lt14 c = rw (lt-ltb _ 14 c.if-n-lt14.true)

pub returns : goal.returns
unfolding added
returns c = rw (le-ltb _ 14 c.if-n-lt14.false)
