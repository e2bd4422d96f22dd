use Rattle.fits.specs.Fits.{lent_wrong}
use Rattle.fits.proofs.lent_wrong.Goals as goal

pub returns : goal.returns
unfolding lent_wrong
returns c = rw (c.either.ensures, c.directory_wrong-d.ensures, c.links_wrong-l.ensures)
