use native.Mathlib.Omega.{arith}
use Rattle.writing.proofs.Writes.{wrote-past}
use Rattle.sentences.proofs.put.Goals as goal

pub returns-then-out-at : goal.returns-then-out-at
returns-then-out-at c = wrote-past _ _ _ c.if-out-at.true

pub returns : goal.returns
returns c = record { place = omega (arith, c.least-n.ensures); stored = c.put.ensures }
