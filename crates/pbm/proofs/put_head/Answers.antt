use Rattle.pbm.specs.Pbm.{head_of}
use Rattle.writing.proofs.Writes.{wrote_then}
use Rattle.pbm.proofs.put_head.Goals as goal

pub returns : goal.returns
unfolding head_of
returns c = wrote_then c.put_numbered-across.ensures (wrote_then c.put_numbered-down.ensures c.put.ensures)
