use Rattle.fits.specs.Names.{name_wrong}
use Rattle.fits.proofs.Bearing.{run_ends}
use Rattle.fits.proofs.names.name_wrong.Goals as goal

pub returns : goal.returns
unfolding name_wrong
returns c = rw (c.either-2.ensures, c.either.ensures, run_ends _ _ _ c.run_end-legal.ensures)
