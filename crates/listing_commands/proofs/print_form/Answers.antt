use Rattle.answers.specs.Answers.{answer_of, is_taken, number_of}
use Rattle.results.proofs.Parts.{in_output, lifted}
use Rattle.listing_commands.proofs.Around.{nothing-exceeds}
use Rattle.listing_commands.proofs.print_form.Goals as goal

pub returns-then-is_missing : goal.returns-then-is_missing
unfolding answer_of is_taken number_of
returns-then-is_missing c = rw (c.answered.ensures, ← c.entry_of-found.ensures, ← c.is_missing.ensures, c.if-is_missing.true)

pub returns-in-Some : goal.returns-in-Some
unfolding answer_of
returns-in-Some c = rw (← c.entry_of-found.ensures, ← c.is_missing.ensures, c.if-is_missing.false, c.in-Some.is) (lifted (in_output _) _ _ _ _ c.print_entry.ensures)

pub returns-in-None : goal.returns-in-None
unfolding answer_of is_taken number_of
returns-in-None c = rw (c.taken.ensures, ← c.entry_of-found.ensures, ← c.is_missing.ensures, c.if-is_missing.false, c.in-None.is, nothing-exceeds c.args.output.now)
