use Rattle.grammar.specs.Forms.{in_order}
use Rattle.grammar.proofs.makers.variable.Goals as goal

pub returns : goal.returns
unfolding in_order
returns c = λ s. rw c.side_of.ensures
