use native.Mathlib.Omega.{arith}
use Rattle.shortest.proofs.Placing.{placing-step, placing-done, placing-small}
use Rattle.shortest.proofs.steps.behind_start.Goals as goal

pub overflow_add-k : goal.overflow_add-k
overflow_add-k c = omega (arith, c.loop-i.invariant.count, placing-small c.args.s.now c.args.set, c.requires.0)

pub loop-i-preserved : goal.loop-i-preserved
loop-i-preserved c = placing-step _ _ _ _ _ _ _ _ _ c.loop-i.invariant c.next-t.ensures c.put_byte.ensures

pub returns : goal.returns
returns c = placing-done _ _ _ _ _ _ _ c.loop-i-test.false c.loop-i.invariant
