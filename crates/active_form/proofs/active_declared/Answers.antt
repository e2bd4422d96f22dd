use mathlib.Core.Path.{refl}
use Rattle.active_form.proofs.ActiveForm.{declared-none, declared-some}
use Rattle.active_form.proofs.active_declared.Goals as goal

pub returns-then-active-eq-NO_FORM : goal.returns-then-active-eq-NO_FORM
returns-then-active-eq-NO_FORM c = declared-none _ _ _ _ _ c.if-active-eq-NO_FORM.true c.none.ensures

pub returns : goal.returns
returns c = declared-some _ _ _ _ _ _ c.if-active-eq-NO_FORM.false refl c.declared_at.ensures
