use Rattle.slots.specs.Slots.{held_image}
use Rattle.slots.proofs.held_image.Goals as goal

pub returns-then-is_first : goal.returns-then-is_first
unfolding held_image
returns-then-is_first c = rw (← c.is_first.ensures, c.if-is_first.true)

pub returns-else-is_first : goal.returns-else-is_first
unfolding held_image
returns-else-is_first c = rw (← c.is_first.ensures, c.if-is_first.false)
