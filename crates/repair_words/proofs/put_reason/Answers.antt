use borrow.Author.Tests.{eq-eqb, ne_eqb}
use Rattle.repair_words.specs.RepairWords.{reason_of}
use Rattle.repair_words.proofs.put_reason.Goals as goal

pub returns-then-v-eq-FOR_CHAIN : goal.returns-then-v-eq-FOR_CHAIN
unfolding reason_of
returns-then-v-eq-FOR_CHAIN c = rw (eq-eqb _ 3 c.if-v-eq-FOR_CHAIN.true)
    c.put.ensures

pub returns-then-v-eq-FOR_SIZE : goal.returns-then-v-eq-FOR_SIZE
unfolding reason_of
returns-then-v-eq-FOR_SIZE c = rw (ne_eqb _ 3 c.if-v-eq-FOR_CHAIN.false, eq-eqb _ 4 c.if-v-eq-FOR_SIZE.true)
    c.put-then-v-eq-FOR_SIZE.ensures

pub returns-then-v-eq-FOR_SHARED : goal.returns-then-v-eq-FOR_SHARED
unfolding reason_of
returns-then-v-eq-FOR_SHARED c = rw (ne_eqb _ 3 c.if-v-eq-FOR_CHAIN.false, ne_eqb _ 4 c.if-v-eq-FOR_SIZE.false, eq-eqb _ 5 c.if-v-eq-FOR_SHARED.true)
    c.put-then-v-eq-FOR_SHARED.ensures

pub returns : goal.returns
unfolding reason_of
returns c = rw (ne_eqb _ 3 c.if-v-eq-FOR_CHAIN.false, ne_eqb _ 4 c.if-v-eq-FOR_SIZE.false, ne_eqb _ 5 c.if-v-eq-FOR_SHARED.false)
    c.put_content.ensures
