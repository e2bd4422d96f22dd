use Rattle.answers.specs.Answers.{answer_of, is_taken, number_of}
use borrow.Author.Tests.{lt-ltb, le-ltb}
use Rattle.listing_commands.proofs.list_names.Goals as goal

pub returns-then-output-n : goal.returns-then-output-n
unfolding answer_of is_taken number_of
returns-then-output-n c = rw (c.answered.ensures, ← c.listing_length-n.ensures, lt-ltb _ _ c.if-output-n.true)

pub returns : goal.returns
unfolding answer_of is_taken number_of
returns c = rw (c.list.ensures, ← c.listing_length-n.ensures, le-ltb _ _ c.if-output-n.false)
