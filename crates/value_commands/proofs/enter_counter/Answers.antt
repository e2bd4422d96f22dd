use mathlib.Core.Path.{sym, ◌∙◌}
use Rattle.std.proofs.Common.{Ok, Err}
use Rattle.value_commands.proofs.Entering.{counter-by}
use Rattle.value_commands.proofs.enter_counter.Goals as goal

pub returns-in-Ok : goal.returns-in-Ok
returns-in-Ok c = rw (c.taken.ensures, c.counting.ensures, ← c.active_declared-d.ensures)
    (counter-by _ _ _ _ (Ok c.in-Ok.next) _ _ _ (sym c.in-Ok.is ∙ c.set_counter.ensures))

pub returns-in-Err : goal.returns-in-Err
returns-in-Err c = rw (c.answered.ensures, c.refusal.ensures, ← c.active_declared-d.ensures)
    (counter-by _ _ _ _ (Err c.in-Err.refused) _ _ _ (sym c.in-Err.is ∙ c.set_counter.ensures))
