use borrow.Author.Tests.{eq-eqb, ne_eqb}
use Rattle.fits.proofs.new_size.Goals as goal

pub returns-then-kind-eq-PICTURE : goal.returns-then-kind-eq-PICTURE
returns-then-kind-eq-PICTURE c = rw (eq-eqb _ _ c.if-kind-eq-PICTURE.true)

pub returns-else-kind-eq-PICTURE : goal.returns-else-kind-eq-PICTURE
returns-else-kind-eq-PICTURE c = rw (ne_eqb _ _ c.if-kind-eq-PICTURE.false)
