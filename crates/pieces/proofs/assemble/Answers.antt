use mathlib.Core.Path.{refl, sym, ◌∙◌}
use Prim.Native.Nat.{◌-◌}
use native.Mathlib.Omega.{arith}
use Rattle.elements.specs.Elements.{elements}
use Rattle.elements.proofs.Steps.{element-took, element-past, elements-next, elements-stop}
use Rattle.pieces.specs.Data.{values_in}
use Rattle.pieces.proofs.Laying.{laid-is}
use Rattle.pieces.proofs.assemble.Goals as goal

pub loop-i-init : goal.loop-i-init
loop-i-init c = (refl, refl)

pub shape_of-out-in_default : goal.shape_of-out-in_default
shape_of-out-in_default c = c.loop-i.invariant.0

pub returns-in_default : goal.returns-in_default
returns-in_default c = let a = c.args in let l = c.loop-i in rw (elements-stop a.line.now l.i _ (sym c.element_at.ensures ∙ c.in_default.is)) at l.invariant.1 ∙ laid-is a.line.now a.d (values_in a.values.now a.c a.clock) a.out.now (elements a.line.now a.at)

pub overflow_add-i : goal.overflow_add-i
overflow_add-i c = let t = rw (← c.element_at.ensures, c.in-Ok.is) at (element-took c.args.line.now c.loop-i.i) in omega (arith, t)

pub loop-i-smaller : goal.loop-i-smaller
loop-i-smaller c = let t = rw (← c.element_at.ensures, c.in-Ok.is) at (element-took c.args.line.now c.loop-i.i) in omega (arith, t)

pub loop-i-preserved : goal.loop-i-preserved
loop-i-preserved c = let a = c.args in let l = c.loop-i in (omega (arith, l.invariant.0), rw c.lay_element-n.ensures (rw (elements-next a.line.now l.i _ (sym c.element_at.ensures ∙ c.in-Ok.is)) at l.invariant.1))

pub shape_of-out : goal.shape_of-out
shape_of-out c = c.loop-i.invariant.0

pub returns : goal.returns
returns c = let a = c.args in let l = c.loop-i in rw (elements-stop a.line.now l.i _ (element-past a.line.now l.i c.loop-i-test.false)) at l.invariant.1 ∙ laid-is a.line.now a.d (values_in a.values.now a.c a.clock) a.out.now (elements a.line.now a.at)
