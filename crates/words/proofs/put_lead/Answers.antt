use Rattle.writing.proofs.Writes.{wrote_then}
use Rattle.words.specs.Words.{lead_of}
use Rattle.words.proofs.put_lead.Goals as goal

pub returns : goal.returns
unfolding lead_of
returns c = wrote_then c.put_numbered-colon.ensures c.put.ensures
