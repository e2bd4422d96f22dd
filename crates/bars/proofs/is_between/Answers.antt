use mathlib.Core.Path.{sym}
use Rattle.kinds.proofs.Laws.{between-below, between-from}
use Rattle.bars.proofs.is_between.Goals as goal

pub returns-then-n-lo : goal.returns-then-n-lo
returns-then-n-lo c = sym (between-below _ _ _ c.if-n-lo.true)

pub returns : goal.returns
returns c = sym (between-from _ _ _ c.if-n-lo.false)
