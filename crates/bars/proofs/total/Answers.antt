use mathlib.Core.Path.{◌∙◌}
use native.Mathlib.Omega.{arith}
use lib.ListN.{length-map}
use Rattle.bars.specs.Drawing.{dots_of}
use Rattle.bars.proofs.Stroking.{map_at, adding-step, adding-done}
use Rattle.bars.proofs.total.Goals as goal

pub loop-w-preserved : goal.loop-w-preserved
loop-w-preserved c = let a = c.args in
    let f = dots_of a.by.kind a.by.e a.by.f in
    adding-step _ _ _ _ _ (length-map a.ws.now f) c.loop-w-test.true c.loop-w.invariant (c.width-sum.ensures.0 ∙ map_at f a.ws.now _ c.loop-w-test.true) c.width-sum.ensures.1

pub returns : goal.returns
returns c = let a = c.args in
    let n = length-map a.ws.now (dots_of a.by.kind a.by.e a.by.f) in
    let i = c.loop-w.invariant in
    (adding-done _ _ _ _ n (omega arith) i, omega (arith, n, i.small, i.below))
