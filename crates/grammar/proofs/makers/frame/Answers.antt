use mathlib.Core.Path.{refl}
use Rattle.grammar.specs.Forms.{in_order}
use Rattle.grammar.proofs.makers.frame.Goals as goal

pub returns : goal.returns
unfolding in_order
returns c = λ p s. refl
