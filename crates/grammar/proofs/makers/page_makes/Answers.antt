use Rattle.grammar.specs.Forms.{in_order}
use Rattle.grammar.proofs.makers.page_makes.Goals as goal

pub returns-in-0 : goal.returns-in-0
unfolding in_order
returns-in-0 c = λ p s. rw c.in-0.is

pub returns-in-1 : goal.returns-in-1
unfolding in_order
returns-in-1 c = λ p s. rw c.in-1.is

pub returns-in-2 : goal.returns-in-2
unfolding in_order
returns-in-2 c = λ p s. rw c.in-2.is
