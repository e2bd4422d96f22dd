use Rattle.fits.specs.Fits.{limits_wrong}
use Rattle.fits.proofs.limits_wrong.Goals as goal

pub returns : goal.returns
unfolding limits_wrong
returns c = let c1 = c in let c2 = c1 in let c3 = c2 in
    rw (c.either-2.ensures, c1.either.ensures, c2.size_wrong-s.ensures, c3.name_wrong-n.ensures, c3.either-known.ensures)
