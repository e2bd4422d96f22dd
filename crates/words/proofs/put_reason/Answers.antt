use Rattle.writing.proofs.Writes.{wrote_then}
use Rattle.words.specs.Words.{reason_of}
use Rattle.words.proofs.put_reason.Goals as goal

pub returns : goal.returns
unfolding reason_of
returns c = wrote_then c.put_number-word.ensures (wrote_then c.put_words-colon.ensures c.put.ensures)
