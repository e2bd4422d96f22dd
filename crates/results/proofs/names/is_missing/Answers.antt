use Rattle.results.proofs.names.is_missing.Goals as goal

pub returns-then-all : goal.returns-then-all
returns-then-all c = rw c.if-all.true

pub returns-else-all : goal.returns-else-all
returns-else-all c = rw (c.if-all.false, ← c.is_some.ensures)
