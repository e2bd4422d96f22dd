use native.Mathlib.Omega.{arith}
use Rattle.intake.proofs.Moving.{part_length, shift-start, shift-step, shift-done}
use mathlib.Core.Path.{refl}
use Rattle.intake.proofs.shift.Goals as goal

pub loop-i-preserved : goal.loop-i-preserved
loop-i-preserved c = let a = c.args in let l = c.loop-i in
    let p = part_length a.window.now a.start a.end _ _ c.least.ensures c.less-n.ensures in
    shift-step a.window.now l.window a.start a.end l.i l.invariant _ (omega (arith, p, c.loop-i-test.true))
    (omega (arith, c.less-n.ensures, c.least.ensures, c.loop-i-test.true)) refl

pub returns : goal.returns
returns c = let a = c.args in let l = c.loop-i in
    let p = part_length a.window.now a.start a.end _ _ c.least.ensures c.less-n.ensures in
    (p, shift-done a.window.now l.window a.start a.end l.i l.invariant (omega (arith, p, c.loop-i-test.false)))
