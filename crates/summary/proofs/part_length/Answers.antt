use Rattle.summary.specs.Summary.{part_length}
use Rattle.summary.proofs.part_length.Goals as goal

pub returns-in-Whole : goal.returns-in-Whole
unfolding part_length
returns-in-Whole c = rw c.in-Whole.is

pub returns-in-First : goal.returns-in-First
unfolding part_length
returns-in-First c = rw c.in-First.is c.least.ensures

pub returns-in-Last : goal.returns-in-Last
unfolding part_length
returns-in-Last c = rw c.in-Last.is c.least-in-Last.ensures

pub returns-in-Middle : goal.returns-in-Middle
unfolding part_length
returns-in-Middle c = rw (c.in-Middle.is, ← c.less.ensures, ← c.less-in-Middle.ensures) c.least-in-Middle.ensures
