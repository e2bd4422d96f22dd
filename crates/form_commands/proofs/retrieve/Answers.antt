use Rattle.answers.specs.Answers.{answer_of, is_taken, number_of}
use Rattle.form_commands.proofs.retrieve.Goals as goal

pub returns-then-is_missing : goal.returns-then-is_missing
unfolding answer_of is_taken number_of
returns-then-is_missing c = rw (c.answered.ensures, ← c.entry_of-found.ensures, ← c.is_missing.ensures, c.if-is_missing.true)

pub returns : goal.returns
unfolding answer_of is_taken number_of
returns c = rw (c.activate.ensures.0, c.activate.ensures.1, ← c.entry_of-found.ensures, ← c.is_missing.ensures, c.if-is_missing.false, c.place_of.ensures)
