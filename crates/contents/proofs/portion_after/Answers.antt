use borrow.Author.Tests.{lt-ltb, le-ltb}
use Rattle.contents.specs.Content.{portion_after}
use Rattle.contents.proofs.portion_after.Goals as goal

pub returns-then-at-lt-LAST_PLACE : goal.returns-then-at-lt-LAST_PLACE
unfolding portion_after
returns-then-at-lt-LAST_PLACE c = rw (lt-ltb _ _ c.if-at-lt-LAST_PLACE.true)

pub returns : goal.returns
unfolding portion_after
returns c = rw (le-ltb _ _ c.if-at-lt-LAST_PLACE.false) c.link_at.ensures.0
