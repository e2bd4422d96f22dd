use Prim.Native.Nat.{◌-◌}
use native.Mathlib.Omega.{arith}
use borrow.Author.Count.{below_more}
use Rattle.contents.proofs.Runs.{copied-long, copied_none, copied_more, copied_all}
use Rattle.content_lines.proofs.line_run.Goals as goal

pub returns-then-store-p : goal.returns-then-store-p
returns-then-store-p c = (omega arith, omega arith, copied_none _ _ _ _, λ j h e. omega arith)

pub returns-then-at-ge-LAST_PLACE : goal.returns-then-at-ge-LAST_PLACE
returns-then-at-ge-LAST_PLACE c = (omega arith, omega arith, copied_none _ _ _ _, λ j h e. omega arith)

pub returns-then-buffer-lt-LONGEST_LINE : goal.returns-then-buffer-lt-LONGEST_LINE
returns-then-buffer-lt-LONGEST_LINE c = (omega arith, omega arith, copied_none _ _ _ _, λ j h e. omega arith)

pub loop-j-init : goal.loop-j-init
loop-j-init c = (omega arith, copied_none _ _ _ _, λ i h e. omega arith)

pub shape_of-buffer-then-b-eq10 : goal.shape_of-buffer-then-b-eq10
shape_of-buffer-then-b-eq10 c = copied-long _ _ _ _ _ _ c.loop-j.invariant.1

pub returns-then-b-eq10 : goal.returns-then-b-eq10
returns-then-b-eq10 c = (omega (arith, c.least-m.ensures, c.loop-j.invariant.0), omega (arith, c.least-m.ensures, c.loop-j.invariant.0), c.loop-j.invariant.1, c.loop-j.invariant.2)

pub overflow_add-buffer : goal.overflow_add-buffer
overflow_add-buffer c = omega (arith, copied-long _ _ _ _ _ _ c.loop-j.invariant.1, c.least-m.ensures)

pub bounds-buffer-n : goal.bounds-buffer-n
bounds-buffer-n c = omega (arith, copied-long _ _ _ _ _ _ c.loop-j.invariant.1, c.least-m.ensures)

pub loop-j-preserved : goal.loop-j-preserved
loop-j-preserved c = (omega arith, copied_more _ _ _ _ _ _ c.loop-j.invariant.1, below_more _ _ c.loop-j.invariant.2 c.if-b-eq10.false)

pub shape_of-buffer : goal.shape_of-buffer
shape_of-buffer c = copied-long _ _ _ _ _ _ c.loop-j.invariant.1

pub returns : goal.returns
returns c = (omega (arith, c.least-m.ensures), omega (arith, c.least-m.ensures), copied_all _ _ _ _ _ _ _ c.loop-j.invariant.0 c.loop-j-test.false c.loop-j.invariant.1, λ j h. c.loop-j.invariant.2 j (omega arith))
