use Prim.Native.Nat.{◌-◌}
use native.Mathlib.Omega.{arith}
use Rattle.room.proofs.Counting.{counting-start, counting-done}
use Rattle.room.proofs.empty_count.Goals as goal

pub loop-i-init : goal.loop-i-init
loop-i-init c = counting-start _

pub overflow_add-n : goal.overflow_add-n
overflow_add-n c = omega (arith, c.loop-i.invariant.within)

pub returns : goal.returns
returns c = counting-done _ _ _ c.loop-i-test.false c.loop-i.invariant
