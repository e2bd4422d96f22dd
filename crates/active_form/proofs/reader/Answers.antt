use borrow.Author.Tests.{eq-eqb, ne_eqb}
use Rattle.active_form.proofs.reader.Goals as goal

pub returns-then-active-eq-NO_FORM : goal.returns-then-active-eq-NO_FORM
returns-then-active-eq-NO_FORM c = rw (eq-eqb _ _ c.if-active-eq-NO_FORM.true)

pub returns : goal.returns
returns c = rw (ne_eqb _ _ c.if-active-eq-NO_FORM.false, c.reader.ensures)
