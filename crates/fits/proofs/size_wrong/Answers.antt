use borrow.Author.Tests.{eq-eqb, ne_eqb}
use Rattle.fits.specs.Fits.{size_wrong}
use Rattle.fits.proofs.size_wrong.Goals as goal

pub returns-then-kind-eq-PICTURE : goal.returns-then-kind-eq-PICTURE
unfolding size_wrong
returns-then-kind-eq-PICTURE c = rw (eq-eqb _ _ c.if-kind-eq-PICTURE.true, c.either.ensures)

pub returns : goal.returns
unfolding size_wrong
returns c = rw (ne_eqb _ _ c.if-kind-eq-PICTURE.false)
