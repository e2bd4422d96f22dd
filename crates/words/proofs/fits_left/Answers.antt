use Rattle.writing.proofs.Writes.{wrote_then}
use Rattle.words.specs.Words.{fits_left_of}
use Rattle.words.proofs.fits_left.Goals as goal

pub returns : goal.returns
unfolding fits_left_of
returns c = wrote_then c.put_asked-portions.ensures c.put_shares.ensures
