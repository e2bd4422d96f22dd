use Rattle.answers.specs.Answers.{answer_of, is_taken, number_of}
use Rattle.page_commands.proofs.set_turn.Goals as goal

pub returns : goal.returns
unfolding answer_of is_taken number_of
returns c = rw (c.taken.ensures, c.turning.ensures, c.turn_of.ensures)
