use Rattle.symbols.proofs.Lists.{filling-done}
use Rattle.symbols.proofs.Fill128.{row_step}
use Rattle.symbols.proofs.sets_b_and_c.body.Goals as goal

pub loop-i-preserved : goal.loop-i-preserved
loop-i-preserved c = row_step _ _ _ _ _ _ _ c.loop-i-test.true c.loop-i.invariant
    c.from.ensures c.row.ensures c.put.ensures.1

pub returns : goal.returns
returns c = filling-done _ _ _ _ _ _ _ c.loop-i-test.false c.loop-i.invariant
