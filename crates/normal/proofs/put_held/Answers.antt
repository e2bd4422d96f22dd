use Rattle.writing.proofs.Writes.{wrote_then}
use Rattle.normal.proofs.put_held.Goals as goal

pub returns : goal.returns
returns c = wrote_then c.put-digit.ensures (wrote_then c.put_decimal-next.ensures c.put_part.ensures)
