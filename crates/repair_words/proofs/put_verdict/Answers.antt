use borrow.Author.Tests.{eq-eqb, ne_eqb}
use Rattle.writing.proofs.Writes.{wrote_then}
use Rattle.repair_words.specs.RepairWords.{verdict_of}
use Rattle.repair_words.proofs.put_verdict.Goals as goal

pub returns-then-v-eq-FOR_NAME : goal.returns-then-v-eq-FOR_NAME
unfolding verdict_of
returns-then-v-eq-FOR_NAME c = rw (eq-eqb _ 2 c.if-v-eq-FOR_NAME.true)
    c.put.ensures

pub returns-then-v-eq-KEPT : goal.returns-then-v-eq-KEPT
unfolding verdict_of
returns-then-v-eq-KEPT c = rw (ne_eqb _ 2 c.if-v-eq-FOR_NAME.false, eq-eqb _ 1 c.if-v-eq-KEPT.true)
    (wrote_then c.put_title-more.ensures c.put-then-v-eq-KEPT.ensures)

pub returns : goal.returns
unfolding verdict_of
returns c = rw (ne_eqb _ 2 c.if-v-eq-FOR_NAME.false, ne_eqb _ 1 c.if-v-eq-KEPT.false)
    (wrote_then c.put_title-more.ensures (wrote_then c.put-reason.ensures (wrote_then c.put_reason-end.ensures c.put-2.ensures)))
