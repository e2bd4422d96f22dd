use Rattle.symbols.proofs.Lists.{length_digits, filling_step, filling-done}
use Rattle.symbols.proofs.Fill39.{spaced-row}
use Rattle.symbols.proofs.code39.body.Goals as goal

pub loop-i-preserved : goal.loop-i-preserved
loop-i-preserved c = filling_step _ _ _ _ _ _ _ _ _ (length_digits 10 _) c.loop-i-test.true c.loop-i.invariant
    (spaced-row _ _ _ c.wide.ensures.0 c.row.ensures) c.put.ensures.1

pub returns : goal.returns
returns c = filling-done _ _ _ _ _ _ _ c.loop-i-test.false c.loop-i.invariant
