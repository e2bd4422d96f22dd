use Rattle.pieces.specs.Data.{part_of}
use Rattle.pieces.proofs.part_of.Goals as goal

pub returns-in-Whole : goal.returns-in-Whole
unfolding part_of
returns-in-Whole c = rw c.in-Whole.is

pub returns-in-First : goal.returns-in-First
unfolding part_of
returns-in-First c = rw c.in-First.is c.front.ensures

pub returns-in-Last : goal.returns-in-Last
unfolding part_of
returns-in-Last c = rw (c.in-Last.is, ← c.less.ensures) c.back.ensures

pub returns-in-Middle : goal.returns-in-Middle
unfolding part_of
returns-in-Middle c = rw (c.in-Middle.is, ← c.less-in-Middle.ensures, ← c.back-in-Middle.ensures) c.front-in-Middle.ensures
