use Prim.Native.Nat.{◌-◌}
use mathlib.Core.Path.{◌∙◌, sym}
use native.Mathlib.Omega.{arith}
use Rattle.elements.proofs.Steps.{element-took, element-past}
use Rattle.data_field.proofs.Steps.{limits-next, limits-out, limits-stop}
use Rattle.data_field.proofs.data_limits.Goals as goal

pub returns-in_default : goal.returns-in_default
returns-in_default c = sym (c.loop-i.invariant ∙ limits-stop c.args.line.now c.loop-i.i _ (sym c.element_at.ensures ∙ c.in_default.is))

pub overflow_add-i : goal.overflow_add-i
overflow_add-i c = let t = rw (← c.element_at.ensures, c.in-Ok.is) at (element-took c.args.line.now c.loop-i.i) in omega (arith, t)

pub loop-i-smaller : goal.loop-i-smaller
loop-i-smaller c = let t = rw (← c.element_at.ensures, c.in-Ok.is) at (element-took c.args.line.now c.loop-i.i) in omega (arith, t)

pub loop-i-preserved : goal.loop-i-preserved
loop-i-preserved c = c.loop-i.invariant ∙ limits-next c.args.line.now c.loop-i.i _ (sym c.element_at.ensures ∙ c.in-Ok.is) (sym c.what_good.ensures ∙ c.if-not-what_good.false)

pub returns-then-not-what_good : goal.returns-then-not-what_good
returns-then-not-what_good c = sym (c.loop-i.invariant ∙ limits-out c.args.line.now c.loop-i.i _ (sym c.element_at.ensures ∙ c.in-Ok.is) (sym c.what_good.ensures ∙ c.if-not-what_good.true))

pub returns : goal.returns
returns c = sym (c.loop-i.invariant ∙ limits-stop c.args.line.now c.loop-i.i _ (element-past c.args.line.now c.loop-i.i c.loop-i-test.false))
