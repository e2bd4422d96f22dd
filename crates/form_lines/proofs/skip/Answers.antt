use mathlib.Core.Path.{sym, ◌∙◌}
use Rattle.form_lines.proofs.Walking.{line-behind, end-behind, bad-behind, bad-less}
use Rattle.form_lines.proofs.skip.Goals as goal

pub returns-in-Line : goal.returns-in-Line
returns-in-Line c = line-behind _ _ _ _ _ (sym c.line_into.ensures.0 ∙ c.in-Line.is) ∙ c.search.invariant

pub returns-in-End : goal.returns-in-End
returns-in-End c = end-behind _ _ _ (sym c.line_into.ensures.0 ∙ c.in-End.is) ∙ c.search.invariant

pub search-smaller : goal.search-smaller
search-smaller c = rw c.onward-ahead.ensures (bad-less _ _ _ (sym c.line_into.ensures.0 ∙ c.in-Bad.is))

pub search-preserved : goal.search-preserved
search-preserved c = rw c.onward-ahead.ensures (bad-behind _ _ _ (sym c.line_into.ensures.0 ∙ c.in-Bad.is) ∙ c.search.invariant)
