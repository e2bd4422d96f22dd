use Rattle.writing.proofs.Writes.{wrote_then}
use Rattle.words.specs.Words.{asked_of}
use Rattle.words.proofs.put_asked.Goals as goal

pub returns-then-picture : goal.returns-then-picture
unfolding asked_of
returns-then-picture c = rw c.if-picture.true
    (wrote_then c.put-title.ensures (wrote_then c.put-comma.ensures (wrote_then c.put_numbered-bytes.ensures c.put.ensures)))

pub returns : goal.returns
unfolding asked_of
returns c = rw c.if-picture.false
    (wrote_then c.put-title-2.ensures (wrote_then c.put-colon.ensures c.put-2.ensures))
