use native.Mathlib.Omega.{arith}
use borrow.Author.Tests.{eq-eqb, ne_eqb}
use Rattle.front.specs.Front.{asked_by}
use Rattle.front.proofs.input.wanted.Goals as goal

pub returns-in_default : goal.returns-in_default
unfolding asked_by
returns-in_default c = (rw (← c.head_of.ensures, c.in_default.is), omega arith)

pub returns-then-row-ne-GM : goal.returns-then-row-ne-GM
unfolding asked_by
returns-then-row-ne-GM c = (rw (← c.head_of.ensures, c.in-Some.is, ne_eqb _ 20 c.if-row-ne-GM.true), omega arith)

pub returns : goal.returns
unfolding asked_by
returns c = (rw (← c.head_of.ensures, c.in-Some.is, eq-eqb _ 20 c.if-row-ne-GM.false) c.size.ensures.0, c.size.ensures.1)
