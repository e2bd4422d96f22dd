use Rattle.answers.specs.Answers.{answer_of, is_taken, number_of}
use borrow.Author.Tests.{lt-ltb, le-ltb}
use Rattle.commands.proofs.Ends.{record-in}
use Rattle.commands.proofs.lines.on_command.Goals as goal

pub returns-then-owed-gt0 : goal.returns-then-owed-gt0
unfolding answer_of is_taken number_of
returns-then-owed-gt0 c = rw (c.answered.ensures, lt-ltb _ _ c.if-owed-gt0.true)

pub record-requires : goal.record-requires
record-requires c = c.requires

pub returns-in-Some : goal.returns-in-Some
unfolding answer_of
returns-in-Some c = rw (← c.recording.ensures, c.in-Some.is, le-ltb _ _ c.if-owed-gt0.false) (record-in c.args.command _ _ _ _ _ _ _ _ _ _ c.«record».ensures)

pub returns-in-None : goal.returns-in-None
unfolding answer_of
returns-in-None c = rw (← c.recording.ensures, c.in-None.is, le-ltb _ _ c.if-owed-gt0.false) c.run.ensures
