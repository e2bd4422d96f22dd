use Prim.Native.Nat.{◌+◌}
use native.Mathlib.Omega.{arith}
use borrow.Author.Tests.{le-ltb, lt-ltb}
use Rattle.classes.specs.KindsBytes.{between}
use Rattle.classes.proofs.Laws.{past}
use Rattle.parts.specs.Names.{name_byte, capital}
use Rattle.parts.proofs.name_byte.Goals as goal

pub returns-then-length-i : goal.returns-then-length-i
unfolding name_byte
returns-then-length-i c = rw (le-ltb _ _ c.if-length-i.true)

pub returns-then-line-at : goal.returns-then-line-at
unfolding name_byte capital between
returns-then-line-at c = let a = c.args in rw (lt-ltb _ _ c.if-length-i.false, past a.line.now (a.at + 1 + a.i) (omega arith))

pub returns : goal.returns
unfolding name_byte
returns c = rw (lt-ltb _ _ c.if-length-i.false, ← c.byte.ensures) c.folded.ensures
