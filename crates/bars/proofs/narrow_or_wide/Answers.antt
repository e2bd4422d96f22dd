use native.Mathlib.Omega.{arith}
use borrow.Author.Tests.{eq-eqb, ne_eqb}
use Rattle.bars.specs.Drawing.{dots_of}
use Rattle.bars.proofs.narrow_or_wide.Goals as goal

pub returns-then-w-eq2 : goal.returns-then-w-eq2
unfolding dots_of
returns-then-w-eq2 c = (rw (eq-eqb _ 2 c.if-w-eq2.true) c.wide.ensures, omega arith)

pub returns : goal.returns
unfolding dots_of
returns c = (rw (ne_eqb _ 2 c.if-w-eq2.false) c.wide-2.ensures, omega arith)
