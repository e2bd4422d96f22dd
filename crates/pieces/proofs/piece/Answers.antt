use lib.Seq.{drop-drop}
use Rattle.pieces.specs.Data.{piece_of}
use Rattle.pieces.proofs.piece.Goals as goal

pub returns-in-Text : goal.returns-in-Text
unfolding piece_of
returns-in-Text c = rw (c.in-Text.is, ← c.less.ensures, ← drop-drop, ← c.back.ensures, ← c.back-in-Text.ensures) c.front.ensures

pub returns-in-Variable : goal.returns-in-Variable
unfolding piece_of
returns-in-Variable c = rw c.in-Variable.is c.part_of.ensures

pub returns-in-Counter : goal.returns-in-Counter
unfolding piece_of
returns-in-Counter c = rw c.in-Counter.is c.part_of-in-Counter.ensures

pub returns-in-Stamped : goal.returns-in-Stamped
unfolding piece_of
returns-in-Stamped c = rw c.in-Stamped.is
