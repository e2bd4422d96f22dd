use mathlib.Core.Path.{sym, ap, ◌∙◌}
use Rattle.recording.specs.Judged.{is_taken}
use Rattle.forms.specs.Form.{takes, declaring}
use Rattle.forms.proofs.see_line.Goals as goal

pub returns-in-Ok : goal.returns-in-Ok
unfolding takes declaring
returns-in-Ok c = let e = sym c.stored_item.ensures ∙ c.in-Some.is in rw e (c.declare.ensures, ap is_taken (sym c.judge.ensures ∙ c.in-Ok.is))

pub returns-in-Err : goal.returns-in-Err
unfolding takes
returns-in-Err c = let e = sym c.stored_item.ensures ∙ c.in-Some.is in rw e (ap is_taken (sym c.judge.ensures ∙ c.in-Err.is))

pub returns-in-None : goal.returns-in-None
unfolding takes
returns-in-None c = let e = sym c.stored_item.ensures ∙ c.in-None.is in rw e
