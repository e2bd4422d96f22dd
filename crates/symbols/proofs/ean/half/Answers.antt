use Rattle.symbols.proofs.FillEan.{halving-step, halving-done}
use Rattle.symbols.proofs.ean.half.Goals as goal

pub loop-i-preserved : goal.loop-i-preserved
loop-i-preserved c = halving-step _ _ _ _ _ _ _ _ _ _ _ c.loop-i-test.true c.requires.1 c.loop-i.invariant
    c.wide.ensures.0 c.row.ensures c.digit.ensures c.put.ensures.1

pub returns : goal.returns
returns c = halving-done _ _ _ _ _ _ _ c.loop-i-test.false c.loop-i.invariant
