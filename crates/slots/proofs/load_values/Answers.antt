use native.Mathlib.Omega.{arith}
use Rattle.slots.proofs.Images.{held-most}
use Rattle.slots.proofs.load_values.Goals as goal

pub overflow_add-page_of : goal.overflow_add-page_of
overflow_add-page_of c = omega (arith, held-most c.args.file.now)

pub returns : goal.returns
returns c = rw (c.put.ensures, c.part.ensures, c.values_at.ensures, c.page_of.ensures)
