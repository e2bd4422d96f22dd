use Rattle.writing.proofs.Writes.{wrote_then}
use Rattle.sentences.proofs.put_numbered.Goals as goal

pub returns : goal.returns
returns c = wrote_then c.put-next.ensures c.put_decimal.ensures
