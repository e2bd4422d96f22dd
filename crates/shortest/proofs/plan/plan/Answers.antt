use mathlib.Core.Path.{refl, ap, ◌∙◌}
use mathlib.Core.Bool.{cond}
use native.Mathlib.Omega.{arith}
use Rattle.shortest.proofs.Planning.{planning-start, planning-step}
use Rattle.shortest.proofs.plan.plan.Goals as goal

pub loop-i-init : goal.loop-i-init
loop-i-init c = planning-start _ _

pub loop-i-preserved : goal.loop-i-preserved
loop-i-preserved c = planning-step _ _ _ _ _ _ _ _ _ _ _ (omega arith) (omega arith) c.loop-i.invariant refl
    c.byte-b.ensures (c.mark.ensures ∙ ap (λ t. cond t 1 0) c.leaves.ensures) c.lengthen-m.ensures refl
