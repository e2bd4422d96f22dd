use mathlib.Core.Path.{sym, ◌∙◌}
use Rattle.form_lines.proofs.Walking.{line-size, line-behind, end-size, end-behind, bad-size}
use Rattle.form_lines.proofs.next_line.Goals as goal

pub returns-in-Line : goal.returns-in-Line
returns-in-Line c = let e = sym c.line_into-next.ensures.0 ∙ c.in-Line.is in (c.line_into-next.ensures.1, (line-size _ _ _ _ _ e, line-behind _ _ _ _ _ e))

pub returns-in-End : goal.returns-in-End
returns-in-End c = let e = sym c.line_into-next.ensures.0 ∙ c.in-End.is in (c.line_into-next.ensures.1, (end-size _ _ _ e, end-behind _ _ _ e))

pub returns-in-Bad : goal.returns-in-Bad
returns-in-Bad c = let e = sym c.line_into-next.ensures.0 ∙ c.in-Bad.is in (c.line_into-next.ensures.1, (bad-size _ _ _ e, c.skip.ensures))
