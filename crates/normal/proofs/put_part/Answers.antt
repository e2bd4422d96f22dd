use Rattle.normal.specs.Written.{part_written}
use Rattle.writing.proofs.Writes.{wrote_none, wrote_then}
use Rattle.normal.proofs.put_part.Goals as goal

pub returns-in-Whole : goal.returns-in-Whole
unfolding part_written
returns-in-Whole c = rw c.in-Whole.is (wrote_none _ _ c.requires)

pub returns-in-First : goal.returns-in-First
unfolding part_written
returns-in-First c = rw c.in-First.is (wrote_then c.put-next.ensures c.put_decimal.ensures)

pub returns-in-Last : goal.returns-in-Last
unfolding part_written
returns-in-Last c = rw c.in-Last.is (wrote_then c.put-next-in-Last.ensures c.put_decimal-in-Last.ensures)

pub returns-in-Middle : goal.returns-in-Middle
unfolding part_written
returns-in-Middle c = rw c.in-Middle.is (wrote_then c.put-first.ensures (wrote_then c.put_decimal-dot.ensures (wrote_then c.put-next-in-Middle.ensures c.put_decimal-in-Middle.ensures)))
