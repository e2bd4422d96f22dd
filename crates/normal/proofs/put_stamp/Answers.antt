use Rattle.writing.proofs.Writes.{wrote_then}
use Rattle.normal.proofs.put_stamp.Goals as goal

pub returns-in-Date : goal.returns-in-Date
returns-in-Date c = rw c.in-Date.is (wrote_then c.put-next.ensures c.put.ensures)

pub returns-in-Time : goal.returns-in-Time
returns-in-Time c = rw c.in-Time.is (wrote_then c.put-next.ensures c.put-in-Time.ensures)
