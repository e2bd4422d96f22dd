use Rattle.reports.specs.Reports.{which_of}
use Rattle.writing.proofs.Writes.{wrote_then}
use Rattle.reports.proofs.put_which.Goals as goal

pub returns : goal.returns
unfolding which_of
returns c = wrote_then c.put_numbered-of.ensures (wrote_then c.put_numbered-colon.ensures (wrote_then c.put-place.ensures c.put.ensures))
