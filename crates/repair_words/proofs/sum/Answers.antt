use Rattle.writing.proofs.Writes.{wrote_then}
use Rattle.repair_words.specs.RepairWords.{sum_of}
use Rattle.repair_words.proofs.sum.Goals as goal

pub returns : goal.returns
unfolding sum_of
returns c = wrote_then c.put_numbered-more.ensures (wrote_then c.put_numbered-rest.ensures (wrote_then c.put_numbered-of.ensures (wrote_then c.put_numbered-end.ensures c.put.ensures)))
