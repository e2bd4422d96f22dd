use borrow.Author.Tests.{lt-ltb, le-ltb}
use Rattle.contents.specs.Content.{place_after}
use Rattle.contents.proofs.place_after.Goals as goal

pub returns-then-at-lt-LAST_PLACE : goal.returns-then-at-lt-LAST_PLACE
unfolding place_after
returns-then-at-lt-LAST_PLACE c = rw (lt-ltb _ _ c.if-at-lt-LAST_PLACE.true)

pub returns-else-at-lt-LAST_PLACE : goal.returns-else-at-lt-LAST_PLACE
unfolding place_after
returns-else-at-lt-LAST_PLACE c = rw (le-ltb _ _ c.if-at-lt-LAST_PLACE.false)
