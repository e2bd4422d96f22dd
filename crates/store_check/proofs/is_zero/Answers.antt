use mathlib.Core.Path.{◌∙◌, refl}
use Rattle.store_check.proofs.Deciding.{zero_more, zero-end}
use Rattle.store_check.proofs.is_zero.Goals as goal

pub loop-b-init : goal.loop-b-init
loop-b-init c = refl

pub loop-b-preserved : goal.loop-b-preserved
loop-b-preserved c = zero_more c.args.s.now _ c.loop-b.any c.loop-b-test.true ∙ c.loop-b.invariant

pub returns : goal.returns
returns c = zero-end _ _ _ c.loop-b-test.false ∙ c.loop-b.invariant
