use mathlib.Core.Path.{sym, ◌∙◌}
use Prim.Native.Nat.{◌-◌}
use native.Mathlib.Omega.{arith}
use Rattle.elements.proofs.Steps.{element-took, element-past}
use Rattle.fitness.proofs.Walked.{walked_start, walked-undeclared, walked_next, walked_stop}
use Rattle.fitness.proofs.judge.Goals as goal

pub loop-i-init : goal.loop-i-init
loop-i-init c = let a = c.args in walked_start a.line.now a.at a.d a.kind

pub returns-in_default : goal.returns-in_default
returns-in_default c = let a = c.args in
    let l = c.loop-i in
    rw (c.with_fit.ensures, c.decide.ensures) (walked_stop a.line.now a.at a.d a.kind l.past l.s l.i l.invariant _ (sym c.element_at.ensures ∙ c.in_default.is))

pub returns-then-undeclared_by : goal.returns-then-undeclared_by
returns-then-undeclared_by c = let a = c.args in
    let l = c.loop-i in
    walked-undeclared a.line.now a.at a.d a.kind l.past l.s l.i l.invariant _ (sym c.element_at.ensures ∙ c.in-Ok.is)
    (sym c.undeclared_by.ensures ∙ c.if-undeclared_by.true)

pub overflow_add-i : goal.overflow_add-i
overflow_add-i c = let b = c in
    let t = rw (← b.element_at.ensures, c.in-Ok.is) at (element-took b.args.line.now b.loop-i.i) in
    omega (arith, t)

pub loop-i-smaller : goal.loop-i-smaller
loop-i-smaller c = let b = c in
    let t = rw (← b.element_at.ensures, c.in-Ok.is) at (element-took b.args.line.now b.loop-i.i) in
    omega (arith, t)

pub loop-i-preserved : goal.loop-i-preserved
loop-i-preserved c = let a = c.args in
    let l = c.loop-i in
    rw (c.join-s.ensures, c.summary_of.ensures, c.first_past-past.ensures, c.past_by.ensures)
    (walked_next a.line.now a.at a.d a.kind l.past l.s l.i l.invariant _ (sym c.element_at.ensures ∙ c.in-Ok.is)
    (sym c.undeclared_by.ensures ∙ c.if-undeclared_by.false))

pub returns : goal.returns
returns c = let a = c.args in
    let l = c.loop-i in
    rw (c.with_fit-2.ensures, c.decide-2.ensures) (walked_stop a.line.now a.at a.d a.kind l.past l.s l.i l.invariant _ (element-past a.line.now l.i c.loop-i-test.false))
