use mathlib.Core.Path.{sym, ap, ◌∙◌}
use Rattle.std.proofs.Common.{Result, Ok, Err}
use Rattle.declarations.specs.declared.Refused.{Refused}
use Rattle.stored_values.specs.Stored.{stored}
use Rattle.value_commands.proofs.Entering.{variable-by}
use Rattle.value_commands.proofs.enter_variable.Goals as goal

pub returns-in-Ok : goal.returns-in-Ok
returns-in-Ok c = rw (c.taken.ensures, ← c.active_declared-d.ensures, ← c.inside-text.ensures)
    (variable-by _ _ _ (Ok tt) _ _ _ _ _ _ _ _ (ap (λ (r : Result Unit Refused). stored r c.set_variable.new.values) (sym c.in-Ok.is) ∙ c.set_variable.ensures))

pub returns-in-Err : goal.returns-in-Err
returns-in-Err c = rw (c.answered.ensures, c.refusal.ensures, ← c.active_declared-d.ensures, ← c.inside-text.ensures)
    (variable-by _ _ _ (Err c.in-Err.refused) _ _ _ _ _ _ _ _ (ap (λ (r : Result Unit Refused). stored r c.set_variable.new.values) (sym c.in-Err.is) ∙ c.set_variable.ensures))
