use Prim.Native.Nat.{◌-◌}
use native.Mathlib.Omega.{arith}
use Rattle.growing.proofs.Growth.{filling-start, filling-done, filling-store, filling-links}
use Rattle.growing.proofs.fill.Goals as goal

pub loop-b-init : goal.loop-b-init
loop-b-init c = filling-start _ _ _ _ _

pub overflow_add-n : goal.overflow_add-n
overflow_add-n c = omega (arith, c.requires, c.loop-b.invariant.count, c.loop-b-test.true)

pub shape_of-store : goal.shape_of-store
shape_of-store c = filling-store _ _ _ _ _ _ _ _ _ _ c.loop-b.invariant

pub shape_of-links : goal.shape_of-links
shape_of-links c = filling-links _ _ _ _ _ _ _ _ _ _ c.loop-b.invariant

pub returns : goal.returns
returns c = filling-done _ _ _ _ _ _ _ _ _ _ c.loop-b-test.false c.loop-b.invariant
