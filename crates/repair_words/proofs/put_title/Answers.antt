use borrow.Author.Tests.{eq-eqb, ne_eqb}
use Rattle.writing.proofs.Writes.{wrote_then}
use Rattle.repair_words.specs.RepairWords.{title_of}
use Rattle.repair_words.proofs.put_title.Goals as goal

pub returns-then-kind-eq2 : goal.returns-then-kind-eq2
unfolding title_of
returns-then-kind-eq2 c = rw (eq-eqb _ 2 c.if-kind-eq2.true)
    (wrote_then c.put-title.ensures (wrote_then c.put-quote.ensures c.put.ensures))

pub returns : goal.returns
unfolding title_of
returns c = rw (ne_eqb _ 2 c.if-kind-eq2.false)
    (wrote_then c.put-title-2.ensures (wrote_then c.put-quote-2.ensures c.put-2.ensures))
