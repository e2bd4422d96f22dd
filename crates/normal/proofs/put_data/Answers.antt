use Prim.Native.Nat.{◌-◌}
use mathlib.Core.Path.{◌∙◌, sym}
use native.Mathlib.Omega.{arith}
use Rattle.elements.proofs.Steps.{element-took, element-past}
use Rattle.writing.proofs.Writes.{rest-start, rest-step, rest-done, rest-same, wrote-length}
use Rattle.normal.proofs.Writes.{data-next, data-stop}
use Rattle.normal.proofs.put_data.Goals as goal

pub loop-i-init : goal.loop-i-init
loop-i-init c = rest-start c.requires

pub shape_of-out-in_default : goal.shape_of-out-in_default
shape_of-out-in_default c = wrote-length (rest-done (rest-same c.loop-i.invariant (data-stop c.args.line.now c.loop-i.i _ (sym c.element_at.ensures ∙ c.in_default.is))))

pub returns-in_default : goal.returns-in_default
returns-in_default c = rest-done (rest-same c.loop-i.invariant (data-stop c.args.line.now c.loop-i.i _ (sym c.element_at.ensures ∙ c.in_default.is)))

pub put_element-place-requires : goal.put_element-place-requires
put_element-place-requires c = c.loop-i.invariant.room

pub overflow_add-i : goal.overflow_add-i
overflow_add-i c = let t = rw (← c.element_at.ensures, c.in-Ok.is) at (element-took c.args.line.now c.loop-i.i) in omega (arith, t)

pub loop-i-smaller : goal.loop-i-smaller
loop-i-smaller c = let t = rw (← c.element_at.ensures, c.in-Ok.is) at (element-took c.args.line.now c.loop-i.i) in omega (arith, t)

pub loop-i-preserved : goal.loop-i-preserved
loop-i-preserved c = rest-step (rest-same c.loop-i.invariant (data-next c.args.line.now c.loop-i.i _ (sym c.element_at.ensures ∙ c.in-Ok.is))) c.put_element-place.ensures

pub shape_of-out : goal.shape_of-out
shape_of-out c = wrote-length (rest-done (rest-same c.loop-i.invariant (data-stop c.args.line.now c.loop-i.i _ (element-past c.args.line.now c.loop-i.i c.loop-i-test.false))))

pub returns : goal.returns
returns c = rest-done (rest-same c.loop-i.invariant (data-stop c.args.line.now c.loop-i.i _ (element-past c.args.line.now c.loop-i.i c.loop-i-test.false)))
