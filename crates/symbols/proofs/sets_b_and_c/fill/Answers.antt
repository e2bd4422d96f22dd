use mathlib.Core.Path.{sym, ap, ◌∙◌}
use lib.ListN.{length}
use Rattle.symbols.proofs.Fill128.{writing-front}
use native.Mathlib.Omega.{arith}
use Rattle.shortest.proofs.Ours.{ours-most}
use Rattle.symbols.proofs.sets_b_and_c.fill.Goals as goal

pub slice_bounds-values-end : goal.slice_bounds-values-end
slice_bounds-values-end c = omega (arith, ours-most c.args.s.now, c.write-n.ensures.0)

pub slice_bounds-close-end : goal.slice_bounds-close-end
slice_bounds-close-end c = c.write-n.ensures.0 ∙ ap length (sym (writing-front c.args.s.now _ _ _ c.write-n.ensures.0 c.write-n.ensures.1 (omega arith)))

pub returns : goal.returns
returns c = rw (writing-front c.args.s.now _ _ _ c.write-n.ensures.0 c.write-n.ensures.1 (omega arith)) at c.close.ensures
