use lib.Seq.{length-sets}
use Rattle.image.proofs.Ten.{rest-next, rest-none}
use native.Mathlib.Omega.{arith}
use Prim.Native.Nat.{◌-◌}
use mathlib.Core.Path.{refl, sym, ◌∙◌}
use Rattle.image.proofs.put_counters.Goals as goal

pub loop-k-init : goal.loop-k-init
loop-k-init c = (refl, refl)

pub loop-k-preserved : goal.loop-k-preserved
loop-k-preserved c = let l = c.loop-k in
    let a = c.args in
    let e = c.put_counter.ensures in
    (rw e (sym (rest-next l.image l.k a.c c.loop-k-test.true) ∙ l.invariant.0), rw (e, length-sets) l.invariant.1)

pub shape_of-image : goal.shape_of-image
shape_of-image c = c.loop-k.invariant.1

pub returns : goal.returns
returns c = let l = c.loop-k in
    let a = c.args in
    sym (rest-none l.image l.k a.c c.loop-k-test.false) ∙ l.invariant.0
