use Prim.Native.Char.{code}
use borrow.Author.Tests.{eq-eqb, ne_eqb}
use Rattle.summary.proofs.shortest.Goals as goal

pub returns-then-side-eq78 : goal.returns-then-side-eq78
returns-then-side-eq78 c = rw (eq-eqb _ (code "N") c.if-side-eq78.true)

pub returns-else-side-eq78 : goal.returns-else-side-eq78
returns-else-side-eq78 c = rw (ne_eqb _ (code "N") c.if-side-eq78.false)
