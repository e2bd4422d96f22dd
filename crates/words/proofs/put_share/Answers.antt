use Rattle.writing.proofs.Writes.{wrote_then}
use Rattle.words.specs.Words.{share_of}
use Rattle.words.proofs.put_share.Goals as goal

pub returns : goal.returns
unfolding share_of
returns c = wrote_then c.put_numbered-of.ensures (wrote_then c.put_numbered-end.ensures c.put.ensures)
