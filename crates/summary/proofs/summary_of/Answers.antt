use Rattle.pieces.specs.Data.{piece_of}
use Rattle.summary.specs.Summary.{summary_of}
use Rattle.summary.proofs.summary_of.Goals as goal

pub returns-in-Text : goal.returns-in-Text
unfolding summary_of piece_of
returns-in-Text c = rw (c.in-Text.is, c.all_in-good.ensures, (rw c.in-Text.is at c.piece-t.ensures))

pub returns-in-Variable : goal.returns-in-Variable
unfolding summary_of
returns-in-Variable c = rw c.in-Variable.is c.variable_summary.ensures

pub returns-in-Counter : goal.returns-in-Counter
unfolding summary_of
returns-in-Counter c = rw (c.in-Counter.is, ← c.width_at.ensures, ← c.part_length-n.ensures)

pub returns-in-Stamped : goal.returns-in-Stamped
unfolding summary_of
returns-in-Stamped c = rw c.in-Stamped.is c.stamp_summary.ensures
