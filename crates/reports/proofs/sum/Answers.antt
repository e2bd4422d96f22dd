use Rattle.reports.specs.Reports.{sum_of}
use Rattle.writing.proofs.Writes.{wrote_then}
use Rattle.reports.proofs.sum.Goals as goal

pub returns : goal.returns
unfolding sum_of
returns c = wrote_then c.put_numbered-lines.ensures (wrote_then c.put_numbered-more.ensures (wrote_then c.put_numbered-end.ensures c.put.ensures))
