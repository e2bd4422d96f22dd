use native.Mathlib.Omega.{arith}
use Rattle.slots.proofs.Images.{held-most}
use Rattle.slots.proofs.fill_slot.Goals as goal

pub overflow_add-held : goal.overflow_add-held
overflow_add-held c = omega (arith, held-most c.args.file.now, c.held_image-held.ensures)

pub overflow_add-at-3 : goal.overflow_add-at-3
overflow_add-at-3 c = omega (arith, held-most c.args.file.now, c.held_image-held.ensures, c.slot_at-at.ensures)

pub returns : goal.returns
returns c = rw (c.put.ensures, c.front.ensures, c.put_session.ensures, c.put_four-2.ensures, c.put_four.ensures, c.held_image-held.ensures, c.slot_at-at.ensures)
