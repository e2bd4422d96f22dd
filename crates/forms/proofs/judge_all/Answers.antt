use mathlib.Core.Path.{sym, ◌∙◌}
use Rattle.forms.proofs.Walking.{ok-start, ok_end}
use Rattle.forms.proofs.judge_all.Goals as goal

pub loop-w-init : goal.loop-w-init
loop-w-init c = (c.requires, ok-start _ _ _ _ _ c.start-w.ensures)

pub returns : goal.returns
returns c = ok_end _ _ _ _ _ _ c.loop-w-test.false ∙ c.loop-w.invariant.1
