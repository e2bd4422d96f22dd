use Prim.Native.Nat.{◌-◌}
use native.Mathlib.Omega.{arith}
use lib.ListN.{get_or}
use Rattle.grammar.specs.Forms.{row_of}
use Rattle.grammar.proofs.Rows.{form-at, in_row, out-row, row-short}
use Rattle.writing.proofs.Writes.{rest-start, rest-step, rest-done, rest-same, wrote-length}
use Rattle.normal.proofs.Writes.{written-more, written-done}
use Rattle.normal.proofs.put_row.Goals as goal

pub loop-i-init : goal.loop-i-init
loop-i-init c = rest-start (omega arith)

pub shape_of-out-then-f-eq32 : goal.shape_of-out-then-f-eq32
shape_of-out-then-f-eq32 c = let a = c.args in
    let g = c.line_up-up in
    let l = c.loop-i in
    wrote-length (rest-done (rest-same l.invariant (written-done (row_of a.row).fields a.line.now a.vs.now a.ps.now l.i (out-row a.row l.i (get_or g.result l.i 0) (form-at a.row l.i g.result g.ensures c.loop-i-test.true) c.if-f-eq32.true))))

pub returns-then-f-eq32 : goal.returns-then-f-eq32
returns-then-f-eq32 c = let a = c.args in
    let g = c.line_up-up in
    let l = c.loop-i in
    rest-done (rest-same l.invariant (written-done (row_of a.row).fields a.line.now a.vs.now a.ps.now l.i (out-row a.row l.i (get_or g.result l.i 0) (form-at a.row l.i g.result g.ensures c.loop-i-test.true) c.if-f-eq32.true)))

pub put_field-place-requires : goal.put_field-place-requires
put_field-place-requires c = c.loop-i.invariant.room

pub loop-i-preserved : goal.loop-i-preserved
loop-i-preserved c = let a = c.args in
    let g = c.line_up-up in
    let l = c.loop-i in
    let f = form-at a.row l.i g.result g.ensures c.loop-i-test.true in
    let n = in_row a.row l.i (get_or g.result l.i 0) f c.if-f-eq32.false in
    rest-step (rest-same l.invariant (written-more (row_of a.row).fields a.line.now a.vs.now a.ps.now l.i n)) (rw f at c.put_field-place.ensures)

pub shape_of-out : goal.shape_of-out
shape_of-out c = let a = c.args in
    let l = c.loop-i in
    wrote-length (rest-done (rest-same l.invariant (written-done (row_of a.row).fields a.line.now a.vs.now a.ps.now l.i (omega (arith, row-short a.row)))))

pub returns : goal.returns
returns c = let a = c.args in
    let l = c.loop-i in
    rest-done (rest-same l.invariant (written-done (row_of a.row).fields a.line.now a.vs.now a.ps.now l.i (omega (arith, row-short a.row))))
