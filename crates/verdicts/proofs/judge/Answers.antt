use Prim.Native.Nat.{◌-◌}
use Rattle.verdicts.proofs.Judging.{judging-start, judging-step, judging-done}
use Rattle.verdicts.proofs.judge.Goals as goal

pub loop-i-init : goal.loop-i-init
loop-i-init c = judging-start _ _ _

pub loop-i-preserved : goal.loop-i-preserved
loop-i-preserved c = let n = c in let v = n in let t = v in
    judging-step _ _ _ _ _ _ t.loop-i.invariant _ _ _ t.loop-i-test.true n.note.auto.verdicts n.note.auto.fills
    v.verdict-v.ensures n.note.ensures

pub shape_of-verdicts : goal.shape_of-verdicts
shape_of-verdicts c = c.loop-i.invariant.verdicts-long

pub shape_of-fills : goal.shape_of-fills
shape_of-fills c = c.loop-i.invariant.fills-long

pub returns : goal.returns
returns c = judging-done _ _ _ _ _ _ c.loop-i.invariant c.loop-i-test.false
