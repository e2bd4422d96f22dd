use mathlib.Core.Path.{sym}
use Rattle.heads.specs.Heads.{letters_fault}
use Rattle.heads.proofs.Fault.{fault-no-line, fault-no-slant}
use Rattle.heads.proofs.pair_fault.Goals as goal

pub returns-then-a-ne76 : goal.returns-then-a-ne76
returns-then-a-ne76 c = let a = c.args in sym (fault-no-line a.a a.b c.if-a-ne76.true)

pub returns-then-b-eq83 : goal.returns-then-b-eq83
unfolding letters_fault
returns-then-b-eq83 c = rw (c.if-a-ne76.false, c.if-b-eq83.true)

pub returns-else-b-eq83 : goal.returns-else-b-eq83
returns-else-b-eq83 c = let e = c.if-a-ne76.false in rw e (sym (fault-no-slant c.args.b c.if-b-eq83.false))
