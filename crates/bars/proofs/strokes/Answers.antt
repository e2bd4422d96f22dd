use mathlib.Core.Path.{refl, ◌∙◌}
use native.Mathlib.Omega.{arith}
use lib.ListN.{length-map}
use Rattle.bars.specs.Drawing.{dots_of, bars}
use Rattle.bars.proofs.Stroking.{map_at, stroking-step, stroking-done}
use Rattle.bars.proofs.strokes.Goals as goal

pub loop-w-init : goal.loop-w-init
unfolding bars
loop-w-init c = record { small = omega arith; long = refl; bytes = λ i. omega (arith, c.type_inv.page i); whole = refl }

pub loop-w-preserved : goal.loop-w-preserved
loop-w-preserved c = let a = c.args in
    let f = dots_of a.by.kind a.by.e a.by.f in
    stroking-step _ _ _ _ _ _ _ _ _ _ _ _ _ _ _ (omega (arith, length-map a.ws.now f)) (λ i. omega (arith, c.type_inv.page i)) c.loop-w.invariant
    (c.width.ensures.0 ∙ map_at f a.ws.now _ c.loop-w-test.true) c.width.ensures.1 c.stroke.ensures

pub returns : goal.returns
returns c = let a = c.args in
    stroking-done _ _ _ _ _ _ _ _ _ _ _ _ _ (omega (arith, length-map a.ws.now (dots_of a.by.kind a.by.e a.by.f))) c.loop-w.invariant
