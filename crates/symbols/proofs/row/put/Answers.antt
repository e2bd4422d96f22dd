use mathlib.Core.Path.{refl}
use Rattle.symbols.proofs.Lists.{writing_step, writing-done}
use Rattle.symbols.proofs.row.put.Goals as goal

pub loop-left-preserved : goal.loop-left-preserved
loop-left-preserved c = writing_step _ _ _ _ _ _ _ _ _ c.loop-left-test.true c.loop-left.invariant
    c.last_digit.ensures c.put_byte.ensures

pub returns : goal.returns
returns c = (refl, writing-done _ _ _ _ _ _ _ c.loop-left-test.false c.loop-left.invariant)
