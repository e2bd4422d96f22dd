use Rattle.grammar.specs.Forms.{in_order}
use Rattle.grammar.proofs.makers.counter.Goals as goal

pub returns : goal.returns
unfolding in_order
returns c = λ s. rw c.step_of.ensures
