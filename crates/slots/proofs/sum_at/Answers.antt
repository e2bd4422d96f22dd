use native.Mathlib.Omega.{arith}
use Rattle.slots.proofs.Images.{held-most}
use Rattle.slots.proofs.sum_at.Goals as goal

pub overflow_add-result : goal.overflow_add-result
overflow_add-result c = omega (arith, held-most c.args.file.now)
