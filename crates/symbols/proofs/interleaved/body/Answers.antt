use native.Mathlib.Omega.{arith}
use Rattle.symbols.proofs.Fill25.{woven-row, weaving-pair, weaving-done}
use Rattle.symbols.proofs.interleaved.body.Goals as goal

pub loop-i-preserved : goal.loop-i-preserved
loop-i-preserved c = weaving-pair _ _ _ _ c.loop-i.i _ c.loop-i-test.true c.loop-i.invariant
    (woven-row _ _ _ _ _ _ c.wide-first.ensures.0 c.row.ensures c.wide-second.ensures.0 c.row-in-loop-i.ensures) c.put.ensures.1

pub returns : goal.returns
returns c = weaving-done _ _ _ _ (omega arith) c.loop-i.invariant
