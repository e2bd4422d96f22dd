use Rattle.slots.proofs.Images.{sum-within}
use native.Mathlib.Omega.{arith}
use Rattle.slots.specs.Slots.{slotted}
use Rattle.slots.proofs.put_slot.Goals as goal

pub overflow_add-at : goal.overflow_add-at
overflow_add-at c = omega (arith, sum-within _ _ c.sum_at-n.ensures, c.slot_at-at.ensures)

pub returns : goal.returns
unfolding slotted
returns c = rw (c.put_four.ensures, c.sum-s.ensures, c.part.ensures, c.four_at-mark.ensures, c.sum_at-n.ensures, c.slot_at-at.ensures, c.fill_slot.ensures)
