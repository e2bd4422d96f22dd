use mathlib.Core.Path.{◌∙◌, ap}
use lib.ListN.{take}
use Rattle.normal.specs.Written.{what_written}
use Rattle.writing.proofs.Writes.{wrote-same, cased_kept}
use Rattle.normal.proofs.put_element.Goals as goal

pub returns-in-Text : goal.returns-in-Text
unfolding what_written
returns-in-Text c = rw c.in-Text.is (wrote-same c.copy.ensures (cased_kept _ ∙ c.first.ensures ∙ ap (take c.args.count) c.rest.ensures))

pub returns-in-Variable : goal.returns-in-Variable
unfolding what_written
returns-in-Variable c = rw c.in-Variable.is c.put_held.ensures

pub returns-in-Counter : goal.returns-in-Counter
unfolding what_written
returns-in-Counter c = rw c.in-Counter.is c.put_held-in-Counter.ensures

pub returns-in-Stamped : goal.returns-in-Stamped
unfolding what_written
returns-in-Stamped c = rw c.in-Stamped.is c.put_stamp.ensures
