use mathlib.Core.Path.{◌∙◌}
use Rattle.forms.proofs.Walking.{declared-start, declared-end}
use Rattle.forms.proofs.declared_at.Goals as goal

pub loop-w-init : goal.loop-w-init
loop-w-init c = declared-start _ _ _ _ _ c.start-w.ensures

pub loop-w-smaller : goal.loop-w-smaller
loop-w-smaller c = c.declare_next-w.ensures.1

pub loop-w-preserved : goal.loop-w-preserved
loop-w-preserved c = c.declare_next-w.ensures.0 ∙ c.loop-w.invariant

pub returns : goal.returns
returns c = declared-end _ _ _ _ _ _ c.loop-w-test.false ∙ c.loop-w.invariant
