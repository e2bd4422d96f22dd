use Rattle.writing.proofs.Writes.{wrote_then}
use Rattle.repair_words.specs.RepairWords.{made_of}
use Rattle.repair_words.proofs.made.Goals as goal

pub returns : goal.returns
unfolding made_of
returns c = wrote_then c.put-file.ensures (wrote_then c.put-most.ensures (wrote_then c.put_numbered-unit.ensures (wrote_then c.put-last.ensures (wrote_then c.put-end.ensures c.put.ensures))))
