use Rattle.writing.proofs.Writes.{wrote_then}
use Rattle.reports.proofs.label.Goals as goal

pub returns : goal.returns
returns c = wrote_then c.put_which-at.ensures c.put_size.ensures
