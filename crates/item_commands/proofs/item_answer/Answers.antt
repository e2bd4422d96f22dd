use Rattle.item_commands.proofs.First.{fit-answer}
use Rattle.answers.specs.Answers.{answer_of}
use Rattle.item_commands.proofs.item_answer.Goals as goal

pub returns-then-has_picture : goal.returns-then-has_picture
unfolding answer_of
returns-then-has_picture c = rw (← c.has_picture.ensures, c.if-has_picture.true, c.answer_of.ensures, c.judge.ensures) (fit-answer _ _ _)

pub returns : goal.returns
unfolding answer_of
returns c = rw (← c.has_picture.ensures, c.if-has_picture.false)
