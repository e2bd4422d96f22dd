use Rattle.recording.proofs.again.Goals as goal

pub returns-then-declared : goal.returns-then-declared
returns-then-declared c = rw c.if-declared.true

pub returns-else-declared : goal.returns-else-declared
returns-else-declared c = rw c.if-declared.false
