use Rattle.answers.specs.Answers.{answer_of, is_taken, number_of}
use Rattle.commands.proofs.records.end_form.Goals as goal

pub returns : goal.returns
unfolding answer_of is_taken number_of
returns c = rw (c.taken.ensures, c.finish.ensures.directory)
