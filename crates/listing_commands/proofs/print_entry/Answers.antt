use Rattle.answers.specs.Answers.{answer_of, is_taken, number_of}
use borrow.Author.Tests.{lt-ltb, le-ltb}
use Rattle.listing_commands.proofs.Around.{reader-left}
use Rattle.listing_commands.proofs.print_entry.Goals as goal

pub returns-then-output-n : goal.returns-then-output-n
unfolding answer_of is_taken number_of
returns-then-output-n c = rw (c.answered.ensures, ← reader-left c.args.store.now _ _ _ _ c.reader-reader.ensures, lt-ltb _ _ c.if-output-n.true)

pub returns : goal.returns
unfolding answer_of is_taken number_of
returns c = rw (c.copy_out.ensures.copied, ← reader-left c.args.store.now _ _ _ _ c.reader-reader.ensures, le-ltb _ _ c.if-output-n.false)
