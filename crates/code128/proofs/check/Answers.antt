use Rattle.code128.proofs.Weighing.{weighing-start, weighing-step, weighing-done}
use Rattle.code128.proofs.check.Goals as goal

pub loop-i-init : goal.loop-i-init
loop-i-init c = weighing-start _ _ c.byte_at-sum.ensures.0 c.byte_at-sum.ensures.1

pub loop-i-preserved : goal.loop-i-preserved
loop-i-preserved c = (weighing-step _ _ _ _ c.loop-i-test.true c.loop-i.invariant c.byte_at.ensures.0 c.byte_at.ensures.1).next

pub returns : goal.returns
returns c = weighing-done _ _ _ c.loop-i-test.false c.loop-i.invariant
