use native.Mathlib.Omega.{arith}
use Rattle.contents.proofs.Reading.{place_inside}
use Rattle.content_lines.proofs.Lines.{lining-start, lining-ran, lining_ends, lining-bad, lining_step, lining-end, lining-cut, lining-long}
use Rattle.content_lines.proofs.line_into.Goals as goal

pub loop-left-init : goal.loop-left-init
loop-left-init c = (lining-start _ _ _ _, omega arith)

pub overflow_sub-n : goal.overflow_sub-n
overflow_sub-n c = omega (arith, c.loop-left.invariant.0.few)

pub line_run-r-requires : goal.line_run-r-requires
line_run-r-requires c = omega (arith, c.least.ensures, c.loop-left.invariant.0.few)

pub overflow_add-at : goal.overflow_add-at
overflow_add-at c = omega (arith, c.line_run-r.ensures.1, c.loop-left.invariant.1)

pub overflow_sub-left-in-loop-left : goal.overflow_sub-left-in-loop-left
overflow_sub-left-in-loop-left c = omega (arith, c.loop-left-test.true, c.least.ensures, c.line_run-r.ensures.0)

pub overflow_add-n : goal.overflow_add-n
overflow_add-n c = omega (arith, c.least.ensures, c.line_run-r.ensures.0, c.loop-left.invariant.0.few)

pub overflow_sub-left-in-loop-left-2 : goal.overflow_sub-left-in-loop-left-2
overflow_sub-left-in-loop-left-2 c = omega (arith, c.loop-left-test.true, c.least.ensures, c.line_run-r.ensures.0)

pub shape_of-buffer-then-b-eq10 : goal.shape_of-buffer-then-b-eq10
shape_of-buffer-then-b-eq10 c = lining-long _ _ _ _ _ _ _ _ _ (lining-ran _ _ _ _ _ _ _ _ _ _ _ _ c.loop-left-test.true c.least.ensures c.line_run-r.ensures c.loop-left.invariant.0)

pub returns-then-b-eq10 : goal.returns-then-b-eq10
returns-then-b-eq10 c = lining_ends _ _ _ _ _ _ _ _ _ _ _ _ (lining-ran _ _ _ _ _ _ _ _ _ _ _ _ c.loop-left-test.true c.least.ensures c.line_run-r.ensures c.loop-left.invariant.0) (omega (arith, c.loop-left-test.true, c.least.ensures, c.line_run-r.ensures.0)) c.byte_at-b.ensures c.portion_after-p.ensures c.place_after-at.ensures c.if-b-eq10.true

pub shape_of-buffer-then-n-eq-LONGEST_LINE : goal.shape_of-buffer-then-n-eq-LONGEST_LINE
shape_of-buffer-then-n-eq-LONGEST_LINE c = lining-long _ _ _ _ _ _ _ _ _ (lining-ran _ _ _ _ _ _ _ _ _ _ _ _ c.loop-left-test.true c.least.ensures c.line_run-r.ensures c.loop-left.invariant.0)

pub returns-then-n-eq-LONGEST_LINE : goal.returns-then-n-eq-LONGEST_LINE
returns-then-n-eq-LONGEST_LINE c = lining-bad _ _ _ _ _ _ _ _ _ _ _ _ (lining-ran _ _ _ _ _ _ _ _ _ _ _ _ c.loop-left-test.true c.least.ensures c.line_run-r.ensures c.loop-left.invariant.0) (omega (arith, c.loop-left-test.true, c.least.ensures, c.line_run-r.ensures.0)) c.byte_at-b.ensures c.portion_after-p.ensures c.place_after-at.ensures c.if-b-eq10.false c.if-n-eq-LONGEST_LINE.true

pub overflow_add-n-in-loop-left : goal.overflow_add-n-in-loop-left
overflow_add-n-in-loop-left c = omega (arith, c.least.ensures, c.line_run-r.ensures.0, c.loop-left.invariant.0.few)

pub loop-left-smaller : goal.loop-left-smaller
loop-left-smaller c = omega (arith, c.loop-left-test.true, c.least.ensures, c.line_run-r.ensures.0)

pub loop-left-preserved : goal.loop-left-preserved
loop-left-preserved c = (rw c.put_byte.ensures (lining_step _ _ _ _ _ _ _ _ _ _ _ _ (lining-ran _ _ _ _ _ _ _ _ _ _ _ _ c.loop-left-test.true c.least.ensures c.line_run-r.ensures c.loop-left.invariant.0) (omega (arith, c.loop-left-test.true, c.least.ensures, c.line_run-r.ensures.0)) c.byte_at-b.ensures c.portion_after-p.ensures c.place_after-at.ensures c.if-b-eq10.false c.if-n-eq-LONGEST_LINE.false), omega (arith, place_inside _ _ c.place_after-at.ensures))

pub shape_of-buffer-then-n-eq0 : goal.shape_of-buffer-then-n-eq0
shape_of-buffer-then-n-eq0 c = lining-long _ _ _ _ _ _ _ _ _ c.loop-left.invariant.0

pub returns-then-n-eq0 : goal.returns-then-n-eq0
returns-then-n-eq0 c = lining-end _ _ _ _ _ _ _ _ _ c.loop-left.invariant.0 c.loop-left-test.false c.if-n-eq0.true

pub shape_of-buffer-else-n-eq0 : goal.shape_of-buffer-else-n-eq0
shape_of-buffer-else-n-eq0 c = lining-long _ _ _ _ _ _ _ _ _ c.loop-left.invariant.0

pub returns-else-n-eq0 : goal.returns-else-n-eq0
returns-else-n-eq0 c = lining-cut _ _ _ _ _ _ _ _ _ c.loop-left.invariant.0 c.loop-left-test.false c.if-n-eq0.false
