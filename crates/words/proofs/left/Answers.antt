use Rattle.writing.proofs.Writes.{wrote_then}
use Rattle.words.specs.Words.{left_of}
use Rattle.words.proofs.left.Goals as goal

pub returns : goal.returns
unfolding left_of
returns c = wrote_then c.put_lead-portions.ensures c.put_shares.ensures
