use mathlib.Core.Path.{sym, ◌∙◌}
use Rattle.outside.proofs.WhiteOutside.{rows_start, rows_step, rows-stop, rows-done}
use Rattle.outside.proofs.white_outside.Goals as goal

pub loop-y-init : goal.loop-y-init
loop-y-init c = let a = c.args in rows_start a.width a.length a.page.now

pub returns-then-not-white_row : goal.returns-then-not-white_row
returns-then-not-white_row c = let a = c.args in
    rows-stop a.width a.length a.page.now c.loop-y.y c.loop-y-test.true
    (sym c.white_row.ensures ∙ c.if-not-white_row.true) ∙ c.loop-y.invariant

pub loop-y-preserved : goal.loop-y-preserved
loop-y-preserved c = let a = c.args in
    rows_step a.width a.length a.page.now c.loop-y.y c.loop-y-test.true
    (sym c.white_row.ensures ∙ c.if-not-white_row.false) ∙ c.loop-y.invariant

pub returns : goal.returns
returns c = let a = c.args in rows-done a.width a.length a.page.now c.loop-y.y c.loop-y-test.false ∙ c.loop-y.invariant
