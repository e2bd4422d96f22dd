use mathlib.Core.Bool.{not}
use mathlib.Core.Path.{ap}
use Rattle.labelling.proofs.Labels.{label-refused, label-taken}
use Rattle.std.proofs.Common.{rules}
use Rattle.labelling.proofs.label.Goals as goal

pub returns-then-not-is_taken : goal.returns-then-not-is_taken
returns-then-not-is_taken c = label-refused _ _ _ _ _ _ c.label_answer-a.ensures c.is_taken.ensures (ap not c.if-not-is_taken.true)

pub returns : goal.returns
returns c = let d = c in
    label-taken _ _ _ _ _ _ _ _ d.label_answer-a.ensures d.is_taken.ensures (ap not d.if-not-is_taken.false) c.label-after.ensures
