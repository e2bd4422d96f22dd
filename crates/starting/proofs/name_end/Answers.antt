use mathlib.Core.Path.{sym}
use Prim.Native.Nat.{◌-◌}
use borrow.Author.Tests.{eq-eqb, ne_eqb}
use Rattle.cells.proofs.Scan.{seeking-start, seeking-step, seeking-here, seeking-done}
use Rattle.starting.specs.Start.{name_end}
use Rattle.starting.proofs.name_end.Goals as goal

pub loop-k-init : goal.loop-k-init
loop-k-init c = seeking-start _ _

pub returns-then-b-eq0 : goal.returns-then-b-eq0
unfolding name_end
returns-then-b-eq0 c = sym (seeking-here _ _ _ c.loop-k-test.true (eq-eqb _ _ c.if-b-eq0.true) c.loop-k.invariant)

pub loop-k-preserved : goal.loop-k-preserved
loop-k-preserved c = seeking-step _ _ _ c.loop-k-test.true (ne_eqb _ _ c.if-b-eq0.false) c.loop-k.invariant

pub returns : goal.returns
unfolding name_end
returns c = sym (seeking-done _ _ _ c.loop-k-test.false c.loop-k.invariant)
