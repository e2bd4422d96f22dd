use native.Mathlib.Omega.{arith}
use Rattle.slots.proofs.Images.{held-most}
use Rattle.slots.proofs.is_whole.Goals as goal

pub overflow_add-at : goal.overflow_add-at
overflow_add-at c = omega (arith, held-most c.args.file.now)

pub returns : goal.returns
returns c = rw (c.sum.ensures, c.part.ensures, c.four_at-mark.ensures, c.four_at-said.ensures, c.sum_at-n.ensures, c.page_of-at.ensures)
