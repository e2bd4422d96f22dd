use mathlib.Core.Path.{ap}
use Rattle.writing.proofs.Writes.{wrote_then, wrote-same}
use Rattle.words.specs.Words.{blanks, mark_of}
use Rattle.words.proofs.mark.Goals as goal

pub returns : goal.returns
unfolding mark_of
returns c = wrote_then c.put_lead-reason.ensures (wrote_then (wrote-same c.put_blanks-end.ensures (ap blanks c.indent.ensures)) c.put.ensures)
