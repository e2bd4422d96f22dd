use Rattle.bars.specs.Drawing.{in_limits}
use mathlib.Core.Path.{◌∙◌}
use mathlib.Core.Bool.{◌&&◌}
use lib.Dec.{ltb}
use Rattle.bars.proofs.in_limits.Goals as goal

pub returns : goal.returns
unfolding in_limits
returns c = let a = c.args in
    c.both.ensures
    ∙ (λ i. (c.both-sizes.ensures ∙ (λ j. c.is_between.ensures j && c.is_between-2.ensures j)) i
    && (c.both-above.ensures ∙ (λ j. ltb a.b.e a.b.f && c.is_between-3.ensures j)) i)
