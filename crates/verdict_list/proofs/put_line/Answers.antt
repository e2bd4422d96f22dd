use Rattle.writing.proofs.Writes.{wrote_then}
use Rattle.verdict_list.specs.Lines.{verdict_line}
use Rattle.verdict_list.proofs.put_line.Goals as goal

pub returns : goal.returns
unfolding verdict_line
returns c = wrote_then c.put_decimal-space.ensures (wrote_then c.put-from.ensures (wrote_then c.put_word-end.ensures c.put.ensures))
