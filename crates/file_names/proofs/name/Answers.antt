use Rattle.file_names.specs.Names.{name_of}
use Rattle.writing.proofs.Writes.{wrote_then}
use Rattle.file_names.proofs.name.Goals as goal

pub returns : goal.returns
unfolding name_of
returns c = wrote_then c.put-dash.ensures (wrote_then c.put-zeros.ensures (wrote_then c.put_zeros-digits.ensures (wrote_then c.put_decimal-dot.ensures c.put.ensures)))
