use borrow.Author.Tests.{eq-eqb, ne_eqb}
use Rattle.repair_words.specs.RepairWords.{content_reason}
use Rattle.repair_words.proofs.put_content.Goals as goal

pub returns-then-kind-eq3 : goal.returns-then-kind-eq3
unfolding content_reason
returns-then-kind-eq3 c = rw (eq-eqb _ 3 c.if-kind-eq3.true)
    c.put.ensures

pub returns-then-kind-eq2 : goal.returns-then-kind-eq2
unfolding content_reason
returns-then-kind-eq2 c = rw (ne_eqb _ 3 c.if-kind-eq3.false, eq-eqb _ 2 c.if-kind-eq2.true)
    c.put-then-kind-eq2.ensures

pub returns : goal.returns
unfolding content_reason
returns c = rw (ne_eqb _ 3 c.if-kind-eq3.false, ne_eqb _ 2 c.if-kind-eq2.false)
    c.put-2.ensures
