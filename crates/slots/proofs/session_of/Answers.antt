use Rattle.slots.specs.Slots.{session_in}
use Rattle.slots.proofs.session_of.Goals as goal

pub returns-then-is_first : goal.returns-then-is_first
unfolding session_in
returns-then-is_first c = rw (c.dated.ensures, c.decode-held.ensures, c.part.ensures, c.held_image.ensures, c.page_of.ensures, ← c.is_first.ensures, c.if-is_first.true)

pub returns-else-is_first : goal.returns-else-is_first
unfolding session_in
returns-else-is_first c = rw (c.decode-held.ensures, c.part.ensures, c.held_image.ensures, c.page_of.ensures, ← c.is_first.ensures, c.if-is_first.false)
