use Rattle.starting.specs.Start.{begun}
use Rattle.results.proofs.Parts.{on_links, on_values, lifted}
use Rattle.form_commands.proofs.run_form.Goals as goal

pub returns-in-Start : goal.returns-in-Start
unfolding begun
returns-in-Start c = rw c.in-Start.is (lifted (on_links _ _ _ _) _ _ _ _ c.start_form.ensures)

pub returns-in-Retrieve : goal.returns-in-Retrieve
returns-in-Retrieve c = rw c.in-Retrieve.is (lifted (on_values _ _ _ _ _) _ _ _ _ c.retrieve.ensures)

pub returns-in-Erase : goal.returns-in-Erase
returns-in-Erase c = rw c.in-Erase.is c.erase_form.ensures
