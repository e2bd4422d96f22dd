use mathlib.Core.Path.{refl, sym, ◌∙◌}
use Prim.Native.Nat.{◌-◌}
use native.Mathlib.Omega.{arith}
use Rattle.file_parts.proofs.Sums.{sum-next, sum-end}
use Rattle.file_parts.proofs.sum.Goals as goal

pub step-s-requires : goal.step-s-requires
step-s-requires c = c.loop-b.invariant.1

pub loop-b-preserved : goal.loop-b-preserved
loop-b-preserved c = (rw c.step-s.ensures.0 (sym (sum-next _ c.loop-b.b-index c.loop-b.s c.loop-b-test.true) ∙ c.loop-b.invariant.0), c.step-s.ensures.1)

pub returns : goal.returns
returns c = sym (sum-end _ c.loop-b.b-index c.loop-b.s c.loop-b-test.false) ∙ c.loop-b.invariant.0
