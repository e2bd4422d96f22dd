use Rattle.grammar.specs.Forms.{in_order}
use Rattle.grammar.proofs.makers.value_makes.Goals as goal

pub returns-in-22 : goal.returns-in-22
unfolding in_order
returns-in-22 c = λ s. rw c.in-22.is (c.variable.ensures s)

pub returns-in-23 : goal.returns-in-23
unfolding in_order
returns-in-23 c = λ s. rw c.in-23.is (c.counter.ensures s)

pub returns-in-24 : goal.returns-in-24
unfolding in_order
returns-in-24 c = λ s. rw c.in-24.is

pub returns-in-25 : goal.returns-in-25
unfolding in_order
returns-in-25 c = λ s. rw c.in-25.is

pub returns-in-26 : goal.returns-in-26
unfolding in_order
returns-in-26 c = λ s. rw c.in-26.is
