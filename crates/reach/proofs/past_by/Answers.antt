use Rattle.reach.specs.Answers.{past_by}
use Rattle.reach.proofs.past_by.Goals as goal

pub returns-in-Text : goal.returns-in-Text
unfolding past_by
returns-in-Text c = rw c.in-Text.is

pub returns-in-Variable : goal.returns-in-Variable
unfolding past_by
returns-in-Variable c = rw (c.in-Variable.is, ← c.length_at.ensures) c.reaches_past.ensures

pub returns-in-Counter : goal.returns-in-Counter
unfolding past_by
returns-in-Counter c = rw (c.in-Counter.is, ← c.width_at.ensures) c.reaches_past-in-Counter.ensures

pub returns-in-Stamped : goal.returns-in-Stamped
unfolding past_by
returns-in-Stamped c = rw c.in-Stamped.is
