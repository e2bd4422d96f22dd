use native.Mathlib.Omega.{arith}
use Rattle.stamps.proofs.Shown.{field-most}
use Rattle.stamps.proofs.marked_length.Goals as goal

pub overflow_add-result : goal.overflow_add-result
overflow_add-result c = omega (arith, c.length_of.ensures, field-most c.args.stamp c.args.x)
