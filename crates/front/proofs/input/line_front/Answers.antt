use native.Mathlib.Omega.{arith}
use lib.ListN.{length-take}
use borrow.Author.Tests.{eq-eqb, ne_eqb, le-leb, lt-leb}
use Rattle.front.specs.Front.{line_front}
use Rattle.front.proofs.input.line_front.Goals as goal

pub returns-then-n-eq0 : goal.returns-then-n-eq0
unfolding line_front
returns-then-n-eq0 c = rw (eq-eqb _ 0 c.if-n-eq0.true)

pub returns-then-input-eq59 : goal.returns-then-input-eq59
unfolding line_front
returns-then-input-eq59 c = rw (ne_eqb _ 0 c.if-n-eq0.false, eq-eqb _ 59 c.if-input-eq59.true)

pub slice_bounds-wanted-end : goal.slice_bounds-wanted-end
slice_bounds-wanted-end c = rw length-take (omega arith)

pub returns-then-read-input : goal.returns-then-read-input
unfolding line_front
returns-then-read-input c = rw (ne_eqb _ 0 c.if-n-eq0.false, ne_eqb _ 59 c.if-input-eq59.false, ← c.wanted.ensures.0, le-leb _ _ c.if-read-input.true)

pub returns-else-read-input : goal.returns-else-read-input
unfolding line_front
returns-else-read-input c = rw (ne_eqb _ 0 c.if-n-eq0.false, ne_eqb _ 59 c.if-input-eq59.false, ← c.wanted.ensures.0, lt-leb _ _ c.if-read-input.false)
