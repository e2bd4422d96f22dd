use Rattle.writing.proofs.Writes.{wrote_then}
use Rattle.repair_words.specs.RepairWords.{entry_of}
use Rattle.repair_words.proofs.entry.Goals as goal

pub returns : goal.returns
unfolding entry_of
returns c = wrote_then c.put_numbered-colon.ensures (wrote_then c.put-verdict.ensures c.put_verdict.ensures)
