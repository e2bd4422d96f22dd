use Rattle.writing.proofs.Writes.{wrote_then}
use Rattle.words.specs.Words.{shares_of}
use Rattle.words.proofs.put_shares.Goals as goal

pub returns : goal.returns
unfolding shares_of
returns c = rw (← c.free_count-free.ensures, ← c.empty_count-empty.ensures)
    (wrote_then c.put_share-entries.ensures c.put_share.ensures)
