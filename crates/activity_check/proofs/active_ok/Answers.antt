use Rattle.activity_check.proofs.Active.{active-none, active-some}
use Rattle.activity_check.proofs.active_ok.Goals as goal

pub returns-then-active-eq-NO_FORM : goal.returns-then-active-eq-NO_FORM
returns-then-active-eq-NO_FORM c = active-none _ _ c.if-active-eq-NO_FORM.true

pub returns : goal.returns
returns c = active-some _ _ _ _ c.if-active-eq-NO_FORM.false c.wide.ensures c.kind_at.ensures.0
