use mathlib.Core.Path.{◌∙◌}
use Rattle.forms.proofs.Walking.{has-start, has_end}
use Rattle.forms.proofs.pictures_stored.Goals as goal

pub loop-place-init : goal.loop-place-init
loop-place-init c = has-start _ _ _ _ _ c.reader-place.ensures

pub returns : goal.returns
returns c = has_end _ _ _ _ _ _ c.loop-place-test.false ∙ c.loop-place.invariant
