use Rattle.writing.proofs.Writes.{wrote-same}
use Rattle.verdict_list.proofs.Listed.{word_kept, word-name, word-chain, word_size, word-shared, word-content}
use Rattle.verdict_list.proofs.put_word.Goals as goal

pub returns-then-v-eq-KEPT : goal.returns-then-v-eq-KEPT
returns-then-v-eq-KEPT c = wrote-same c.put.ensures (word_kept _ c.if-v-eq-KEPT.true)

pub returns-then-v-eq-FOR_NAME : goal.returns-then-v-eq-FOR_NAME
returns-then-v-eq-FOR_NAME c = wrote-same c.put-then-v-eq-FOR_NAME.ensures (word-name _ c.if-v-eq-KEPT.false c.if-v-eq-FOR_NAME.true)

pub returns-then-v-eq-FOR_CHAIN : goal.returns-then-v-eq-FOR_CHAIN
returns-then-v-eq-FOR_CHAIN c = wrote-same c.put-then-v-eq-FOR_CHAIN.ensures (word-chain _ c.if-v-eq-KEPT.false c.if-v-eq-FOR_NAME.false c.if-v-eq-FOR_CHAIN.true)

pub returns-then-v-eq-FOR_SIZE : goal.returns-then-v-eq-FOR_SIZE
returns-then-v-eq-FOR_SIZE c = wrote-same c.put-then-v-eq-FOR_SIZE.ensures (word_size _ c.if-v-eq-KEPT.false c.if-v-eq-FOR_NAME.false c.if-v-eq-FOR_CHAIN.false c.if-v-eq-FOR_SIZE.true)

pub returns-then-v-eq-FOR_SHARED : goal.returns-then-v-eq-FOR_SHARED
returns-then-v-eq-FOR_SHARED c = wrote-same c.put-then-v-eq-FOR_SHARED.ensures (word-shared _ c.if-v-eq-KEPT.false c.if-v-eq-FOR_NAME.false c.if-v-eq-FOR_CHAIN.false c.if-v-eq-FOR_SIZE.false c.if-v-eq-FOR_SHARED.true)

pub returns : goal.returns
returns c = wrote-same c.put-2.ensures (word-content _ c.if-v-eq-KEPT.false c.if-v-eq-FOR_NAME.false c.if-v-eq-FOR_CHAIN.false c.if-v-eq-FOR_SIZE.false c.if-v-eq-FOR_SHARED.false)
