use Prim.Native.Char.{code}
use borrow.Author.Tests.{eq-eqb, ne_eqb, le-leb, lt-leb}
use Rattle.padding.specs.Padding.{enters}
use Rattle.padding.proofs.may_enter.Goals as goal

pub returns-then-text-lt1 : goal.returns-then-text-lt1
unfolding enters
returns-then-text-lt1 c = rw (eq-eqb _ (code "Z") c.if-side-eq90.true, lt-leb 1 _ c.if-text-lt1.true)

pub returns-then-side-eq90 : goal.returns-then-side-eq90
unfolding enters
returns-then-side-eq90 c = rw (eq-eqb _ (code "Z") c.if-side-eq90.true, le-leb 1 _ c.if-text-lt1.false, ← c.all_digits.ensures) c.both.ensures

pub returns : goal.returns
unfolding enters
returns c = rw (ne_eqb _ (code "Z") c.if-side-eq90.false, ← c.all_legal.ensures) c.both-2.ensures
