use Rattle.answers.specs.Answers.{is_taken}
use Rattle.answers.proofs.is_taken.Goals as goal

pub returns : goal.returns
unfolding is_taken
returns c = rw c.number.ensures
