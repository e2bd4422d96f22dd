use mathlib.Core.Bool.{not}
use mathlib.Core.Path.{ap}
use Rattle.labelling.specs.Labelling.{label_table}
use Rattle.sound.proofs.EntryRows.{entry-refused}
use Rattle.labelling.proofs.Labels.{label-none, label-some}
use Rattle.std.proofs.Common.{rules}
use Rattle.labelling.proofs.label_answer.Goals as goal

pub returns-then-not-is_taken : goal.returns-then-not-is_taken
unfolding label_table
returns-then-not-is_taken c = rw (← c.lengths_wrong-wrong.ensures, ← c.either.ensures) (entry-refused _ _ _ _ _ _ _ c.entry_answer-a.ensures c.is_taken.ensures (ap not c.if-not-is_taken.true))

pub returns-then-owed-eq0 : goal.returns-then-owed-eq0
unfolding label_table
returns-then-owed-eq0 c = rw (← c.lengths_wrong-wrong.ensures, ← c.either.ensures) (label-none _ _ _ _ _ _ c.entry_answer-a.ensures c.is_taken.ensures (ap not c.if-not-is_taken.false) c.if-owed-eq0.true)

pub returns : goal.returns
unfolding label_table
returns c = rw (← c.lengths_wrong-wrong.ensures, ← c.either.ensures) (label-some _ _ _ _ _ _ c.entry_answer-a.ensures c.is_taken.ensures (ap not c.if-not-is_taken.false) c.if-owed-eq0.false)
