use mathlib.Core.Path.{◌∙◌}
use Rattle.store_check.proofs.Deciding.{cell_out, zero-part}
use Rattle.store_check.proofs.zero_from.Goals as goal

pub returns-then-s-at : goal.returns-then-s-at
returns-then-s-at c = cell_out c.args.n c.args.s.now c.args.at c.if-s-at.true

pub returns : goal.returns
returns c = c.is_zero.ensures ∙ zero-part c.args.s.now c.args.at c.args.n c.least.result c.least.ensures
