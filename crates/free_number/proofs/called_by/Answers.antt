use Prim.Native.Nat.{◌-◌}
use Rattle.free_number.proofs.Calling.{calling-start, calling-step, calling-done}
use Rattle.free_number.proofs.called_by.Goals as goal

pub loop-i-init : goal.loop-i-init
loop-i-init c = calling-start _ _

pub loop-i-preserved : goal.loop-i-preserved
loop-i-preserved c = calling-step _ _ _ _ _ _ c.loop-i-test.true c.loop-i.invariant c.called_at.ensures c.capped_sum-n.ensures

pub returns : goal.returns
returns c = calling-done _ _ _ _ c.loop-i-test.false c.loop-i.invariant
