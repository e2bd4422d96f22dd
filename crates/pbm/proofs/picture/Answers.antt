use Rattle.writing.proofs.Writes.{wrote_then}
use Rattle.pbm.proofs.picture.Goals as goal

pub returns : goal.returns
returns c = wrote_then c.put_head-place.ensures c.put_rows.ensures
