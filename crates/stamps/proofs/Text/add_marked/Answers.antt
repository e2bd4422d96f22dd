use borrow.Author.Tests.{ne_eqb}
use Rattle.stamps.specs.Texts.{marked}
use Rattle.stamps.proofs.Text.add_marked.Goals as goal

pub returns-then-x-eq0 : goal.returns-then-x-eq0
unfolding marked
returns-then-x-eq0 c = rw c.if-x-eq0.true

pub returns : goal.returns
unfolding marked
returns c = rw (ne_eqb _ 0 c.if-x-eq0.false, ← c.add.ensures) c.add_field.ensures
