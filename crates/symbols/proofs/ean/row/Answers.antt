use mathlib.Core.Path.{◌∙◌}
use Rattle.symbols.specs.Tables.{rows_a, rows_b}
use Rattle.symbols.proofs.FillEan.{row-A, row-B}
use Rattle.symbols.proofs.ean.row.Goals as goal

pub returns-then-set-eq2 : goal.returns-then-set-eq2
unfolding rows_b
returns-then-set-eq2 c = c.row_in.ensures ∙ row-B _ _ _ c.if-set-eq2.true c.above-v.ensures.0

pub returns-else-set-eq2 : goal.returns-else-set-eq2
unfolding rows_a
returns-else-set-eq2 c = c.row_in-else-set-eq2.ensures ∙ row-A _ _ _ c.if-set-eq2.false c.above-v.ensures.0
