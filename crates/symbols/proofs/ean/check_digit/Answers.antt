use Rattle.symbols.proofs.Checks.{Summed, summing-step, summing-done}
use Rattle.symbols.proofs.ean.check_digit.Goals as goal

turn : (c : goal.After-above) → Summed c.args.s.now c.loop-i.i c.loop-i.sum c.above.result
turn c = summing-step _ _ _ _ c.loop-i-test.true c.loop-i.invariant c.above.ensures.0 c.above.ensures.1

pub loop-i-preserved : goal.loop-i-preserved
loop-i-preserved c = (turn c).next

pub returns : goal.returns
returns c = summing-done _ _ _ c.loop-i-test.false c.loop-i.invariant
