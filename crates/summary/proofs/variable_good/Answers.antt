use Prim.Native.Char.{code}
use mathlib.Core.Path.{sym, ◌∙◌}
use borrow.Author.Tests.{eq-eqb, ne_eqb}
use Rattle.summary.proofs.variable_good.Goals as goal

pub returns-then-takes_all : goal.returns-then-takes_all
returns-then-takes_all c = rw (sym c.takes_all.ensures ∙ c.if-takes_all.true)

pub returns-then-side-eq90 : goal.returns-then-side-eq90
returns-then-side-eq90 c = rw (sym c.takes_all.ensures ∙ c.if-takes_all.false, eq-eqb _ (code "Z") c.if-side-eq90.true)

pub returns : goal.returns
returns c = rw (sym c.takes_all.ensures ∙ c.if-takes_all.false, ne_eqb _ (code "Z") c.if-side-eq90.false)
