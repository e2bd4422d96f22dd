use Rattle.results.proofs.Parts.{on_values, on_nothing, lifted}
use Rattle.value_commands.proofs.run_value.Goals as goal

pub returns-in-Variable : goal.returns-in-Variable
returns-in-Variable c = rw c.in-Variable.is c.enter_variable.ensures

pub returns-in-Counter : goal.returns-in-Counter
returns-in-Counter c = rw c.in-Counter.is (lifted (on_nothing _ _) _ _ _ _ c.enter_counter.ensures)

pub returns-in-Clear : goal.returns-in-Clear
returns-in-Clear c = rw c.in-Clear.is (lifted (on_values _ _ _ _ _) _ _ _ _ c.clear.ensures)

pub returns-in-Print : goal.returns-in-Print
returns-in-Print c = rw c.in-Print.is c.owe.ensures
