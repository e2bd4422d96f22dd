use Rattle.writing.proofs.Writes.{wrote_then}
use Rattle.words.specs.Words.{said_of}
use Rattle.words.proofs.said.Goals as goal

pub returns : goal.returns
unfolding said_of
returns c = wrote_then c.put_lead-reason.ensures (wrote_then c.put_reason-text.ensures (wrote_then c.put-end.ensures c.put.ensures))
