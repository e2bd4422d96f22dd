use Rattle.writing.proofs.Writes.{wrote_then}
use Rattle.words.specs.Words.{fits_of}
use Rattle.words.proofs.fits.Goals as goal

pub returns : goal.returns
unfolding fits_of
returns c = wrote_then c.put_asked-reason.ensures (wrote_then c.put_number-word.ensures (wrote_then c.put_fit_words-end.ensures c.put.ensures))
