use Prim.Native.Char.{code}
use borrow.Author.Tests.{eq-eqb, ne_eqb}
use Rattle.padding.specs.Padding.{fits}
use Rattle.padding.proofs.value_fits.Goals as goal

pub returns-then-side-eq78 : goal.returns-then-side-eq78
unfolding fits
returns-then-side-eq78 c = rw (eq-eqb _ (code "N") c.if-side-eq78.true, ← c.all_legal.ensures) c.both.ensures

pub returns-then-side-eq90 : goal.returns-then-side-eq90
unfolding fits
returns-then-side-eq90 c = rw (ne_eqb _ (code "N") c.if-side-eq78.false, eq-eqb _ (code "Z") c.if-side-eq90.true, ← c.all_digits.ensures) c.both-then-side-eq90.ensures

pub returns : goal.returns
unfolding fits
returns c = rw (ne_eqb _ (code "N") c.if-side-eq78.false, ne_eqb _ (code "Z") c.if-side-eq90.false, ← c.all_legal-2.ensures) c.both-2.ensures
