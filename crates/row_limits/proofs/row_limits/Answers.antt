use Rattle.row_limits.specs.Limits.{field_limits}
use Prim.Native.Nat.{◌-◌}
use Rattle.std.proofs.Common.{Err, rules}
use mathlib.Core.Path.{◌≡◌, ◌∙◌, refl, sym}
use native.Mathlib.Omega.{arith}
use lib.ListN.{get_or}
use Rattle.grammar.specs.Forms.{row_of, bounds_of}
use Rattle.grammar.proofs.Rows.{form-at, bounds-at, in_row, out-row, row-short}
use Rattle.row_limits.proofs.Rows.{limits-more, limits-out, limits-done}
use Rattle.row_limits.proofs.row_limits.Goals as goal

pub loop-i-init : goal.loop-i-init
loop-i-init c = refl

pub returns-then-f-eq32 : goal.returns-then-f-eq32
returns-then-f-eq32 c = let a = c.args in
    let g = c.line_up-up in
    let l = c.loop-i in
    sym (limits-done (row_of a.row).fields (bounds_of a.row a.rows) a.line.now l.before a.vs.now a.ps.now l.i (out-row a.row l.i (get_or g.result l.i 0) (form-at a.row l.i g.result g.ensures c.loop-i-test.true) c.if-f-eq32.true)) ∙ l.invariant

pub returns-in_err-field_limits : goal.returns-in_err-field_limits
unfolding field_limits
returns-in_err-field_limits c = let a = c.args in
    let g = c.line_up-up in
    let l = c.loop-i in
    let t = c.loop-i-test.true in
    let f = form-at a.row l.i g.result g.ensures t in
    let b = bounds-at a.row l.i a.rows g.result _ g.ensures t refl in
    let r : c.from_residual.result ≡ Err c.in_err-field_limits.field-0.0 = search rules in
    r ∙ sym (sym l.invariant ∙ limits-out (row_of a.row).fields (bounds_of a.row a.rows) a.line.now l.before a.vs.now a.ps.now l.i (in_row a.row l.i (get_or g.result l.i 0) f c.if-f-eq32.false) _ (rw (← f, ← b.0, ← b.1, ← c.value_at-behind.ensures, ← c.field_limits.ensures) c.in_err-field_limits.was))

pub loop-i-preserved : goal.loop-i-preserved
unfolding field_limits
loop-i-preserved c = let a = c.args in
    let g = c.line_up-up in
    let l = c.loop-i in
    let t = c.loop-i-test.true in
    let f = form-at a.row l.i g.result g.ensures t in
    let b = bounds-at a.row l.i a.rows g.result _ g.ensures t refl in
    rw (c.number_after-before.ensures, f) (sym (limits-more (row_of a.row).fields (bounds_of a.row a.rows) a.line.now l.before a.vs.now a.ps.now l.i (in_row a.row l.i (get_or g.result l.i 0) f c.if-f-eq32.false) (rw (← f, ← b.0, ← b.1, ← c.value_at-behind.ensures, ← c.field_limits.ensures) c.in_ok-field_limits.was)) ∙ l.invariant)

pub returns : goal.returns
returns c = let a = c.args in
    let l = c.loop-i in
    sym (limits-done (row_of a.row).fields (bounds_of a.row a.rows) a.line.now l.before a.vs.now a.ps.now l.i (omega (arith, row-short a.row))) ∙ l.invariant
