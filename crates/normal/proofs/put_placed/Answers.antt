use Rattle.writing.proofs.Writes.{wrote_then}
use Rattle.normal.proofs.put_placed.Goals as goal

pub returns : goal.returns
returns c = wrote_then c.put-comma.ensures (wrote_then c.put-next.ensures c.put.ensures)
