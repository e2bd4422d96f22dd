use Rattle.results.proofs.Parts.{on_directory, lifted}
use Rattle.commands.proofs.Kept.{short-at}
use Rattle.commands.proofs.Ends.{misplaced-by}
use Rattle.commands.proofs.records.record.Goals as goal

pub record_item-requires : goal.record_item-requires
record_item-requires c = short-at _ _ _ c.in-Item.is c.requires

pub returns-in-Item : goal.returns-in-Item
returns-in-Item c = rw c.in-Item.is c.record_item.ensures

pub returns-in-End : goal.returns-in-End
returns-in-End c = rw c.in-End.is (lifted (on_directory _ _) _ _ _ _ c.end_form.ensures)

pub returns-in_default : goal.returns-in_default
returns-in_default c = rw c.answered.ensures (misplaced-by c.args.command _ c.args.line.now c.args.i _ c.in_default.not-Item c.in_default.not-End)
