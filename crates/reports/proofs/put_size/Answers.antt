use Rattle.reports.specs.Reports.{size_of}
use Rattle.writing.proofs.Writes.{wrote_then}
use Rattle.reports.proofs.put_size.Goals as goal

pub returns : goal.returns
unfolding size_of
returns c = wrote_then c.put_numbered-by.ensures (wrote_then c.put_numbered-dots.ensures (wrote_then c.put_numbered-end.ensures c.put.ensures))
