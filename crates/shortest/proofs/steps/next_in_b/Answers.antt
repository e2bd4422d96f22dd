use mathlib.Core.Path.{sym, ◌∙◌}
use native.Mathlib.Omega.{arith}
use Rattle.shortest.proofs.Placing.{next-byte, next-to-c}
use Rattle.shortest.proofs.steps.next_in_b.Goals as goal

pub returns-then-mark-eq0 : goal.returns-then-mark-eq0
returns-then-mark-eq0 c = rw c.byte_of.ensures (next-byte _ _ c.requires.0 (sym c.requires.1 ∙ c.if-mark-eq0.true))

pub returns : goal.returns
returns c = next-to-c _ _ c.requires.0 (omega arith)
