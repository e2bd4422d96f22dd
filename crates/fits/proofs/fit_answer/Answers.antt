use mathlib.Core.Path.{sym, ◌∙◌}
use borrow.Author.Tests.{lt-ltb, le-ltb}
use Rattle.answers.proofs.Rows.{answer-skip, answer-stop}
use Rattle.fits.proofs.fit_answer.Goals as goal

pub returns-then-lent_wrong : goal.returns-then-lent_wrong
returns-then-lent_wrong c = sym (answer-stop _ _ _ (sym c.lent_wrong.ensures ∙ c.if-lent_wrong.true))

pub returns-then-limits_wrong : goal.returns-then-limits_wrong
returns-then-limits_wrong c = let c2 = c in
    sym (answer-skip _ _ _ (sym c2.lent_wrong.ensures ∙ c2.if-lent_wrong.false)
    ∙ answer-stop _ _ _ (sym c.limits_wrong.ensures ∙ c.if-limits_wrong.true))

pub returns-then-owed-gt0 : goal.returns-then-owed-gt0
returns-then-owed-gt0 c = let c1 = c in let c3 = c1 in
    sym (answer-skip _ _ _ (sym c3.lent_wrong.ensures ∙ c3.if-lent_wrong.false)
    ∙ answer-skip _ _ _ (sym c1.limits_wrong.ensures ∙ c1.if-limits_wrong.false)
    ∙ answer-stop _ _ _ (lt-ltb _ _ c.if-owed-gt0.true))

pub returns : goal.returns
returns c = let c1 = c in let c2 = c1 in let c4 = c2 in
    sym (answer-skip _ _ _ (sym c4.lent_wrong.ensures ∙ c4.if-lent_wrong.false)
    ∙ answer-skip _ _ _ (sym c2.limits_wrong.ensures ∙ c2.if-limits_wrong.false)
    ∙ answer-skip _ _ _ (le-ltb _ _ c1.if-owed-gt0.false)
    ∙ sym c.place_answer.ensures)
