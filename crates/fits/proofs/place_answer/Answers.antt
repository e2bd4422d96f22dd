use mathlib.Core.Path.{sym, ap, ◌∙◌}
use Rattle.std.specs.Prelude.{is_some}
use Rattle.answers.proofs.Rows.{answer-skip, answer-stop}
use Rattle.fits.proofs.place_answer.Goals as goal

pub returns-then-is_some : goal.returns-then-is_some
returns-then-is_some c = sym (answer-stop _ _ _ (ap is_some (sym c.recording.ensures) ∙ sym c.is_some.ensures ∙ c.if-is_some.true))

pub returns-then-is_some-2 : goal.returns-then-is_some-2
returns-then-is_some-2 c = let c3 = c in
    sym (answer-skip _ _ _ (ap is_some (sym c3.recording.ensures) ∙ sym c3.is_some.ensures ∙ c3.if-is_some.false)
    ∙ answer-stop _ _ _ (ap is_some (sym c.user.ensures) ∙ sym c.is_some-2.ensures ∙ c.if-is_some-2.true))

pub returns : goal.returns
returns c = let c1 = c in let c2 = c1 in let c3 = c2 in let c6 = c3 in
    rw (c.full_answer.ensures, c1.new_size.ensures, c2.free_count.ensures)
    (sym (answer-skip _ _ _ (ap is_some (sym c6.recording.ensures) ∙ sym c6.is_some.ensures ∙ c6.if-is_some.false)
    ∙ answer-skip _ _ _ (ap is_some (sym c3.user.ensures) ∙ sym c3.is_some-2.ensures ∙ c3.if-is_some-2.false)))
