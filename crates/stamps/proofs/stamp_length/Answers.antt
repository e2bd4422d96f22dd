use native.Mathlib.Omega.{arith}
use Rattle.stamps.specs.Always.{stamp_length}
use Rattle.stamps.proofs.Shown.{field-most, marked-most}
use Rattle.stamps.proofs.stamp_length.Goals as goal

pub overflow_add-further : goal.overflow_add-further
overflow_add-further c = let a = c.args in omega (arith, c.marked_length.ensures, c.marked_length-2.ensures, marked-most a.stamp a.format.second, marked-most a.stamp a.format.third)

pub overflow_add-result : goal.overflow_add-result
overflow_add-result c = let a = c.args in omega (arith, c.length_of.ensures, c.marked_length.ensures, c.marked_length-2.ensures, field-most a.stamp a.format.first, marked-most a.stamp a.format.second, marked-most a.stamp a.format.third)

pub returns : goal.returns
unfolding stamp_length
returns c = rw (c.length_of.ensures, c.marked_length.ensures, c.marked_length-2.ensures)
