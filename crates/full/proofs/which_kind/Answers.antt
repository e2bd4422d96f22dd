use mathlib.Core.Path.{sym, ◌∙◌}
use Rattle.answers.specs.Answers.{answer_of}
use Rattle.full.proofs.Full.{both-taken, entries-missing}
use Rattle.full.proofs.which_kind.Goals as goal

pub returns-then-both : goal.returns-then-both
returns-then-both c = sym (both-taken c.args.portions c.args.entry (sym c.both.ensures ∙ c.if-both.true))

pub returns-then-portions : goal.returns-then-portions
returns-then-portions c = entries-missing c.args.portions c.args.entry _ c.both.ensures c.if-both.false c.if-portions.true

pub returns : goal.returns
unfolding answer_of
returns c = rw c.if-portions.false
