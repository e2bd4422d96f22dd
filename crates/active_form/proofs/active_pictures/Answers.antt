use mathlib.Core.Path.{refl}
use Rattle.active_form.proofs.ActiveForm.{pictures-none, pictures-some}
use Rattle.active_form.proofs.active_pictures.Goals as goal

pub returns-then-active-eq-NO_FORM : goal.returns-then-active-eq-NO_FORM
returns-then-active-eq-NO_FORM c = pictures-none _ _ _ _ c.if-active-eq-NO_FORM.true

pub returns : goal.returns
returns c = pictures-some _ _ _ _ _ _ c.if-active-eq-NO_FORM.false refl c.pictures_stored.ensures
