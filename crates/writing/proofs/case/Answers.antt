use Rattle.writing.proofs.case.Goals as goal

pub returns-then-fold : goal.returns-then-fold
returns-then-fold c = rw c.if-fold.true c.folded.ensures
