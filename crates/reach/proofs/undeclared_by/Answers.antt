use Rattle.reach.specs.Answers.{undeclared_by}
use Rattle.reach.proofs.undeclared_by.Goals as goal

pub returns-in-Text : goal.returns-in-Text
unfolding undeclared_by
returns-in-Text c = rw c.in-Text.is

pub returns-in-Variable : goal.returns-in-Variable
unfolding undeclared_by
returns-in-Variable c = rw (c.in-Variable.is, c.variable_declared.ensures)

pub returns-in-Counter : goal.returns-in-Counter
unfolding undeclared_by
returns-in-Counter c = rw (c.in-Counter.is, c.counter_declared.ensures)

pub returns-in-Stamped : goal.returns-in-Stamped
unfolding undeclared_by
returns-in-Stamped c = rw c.in-Stamped.is
