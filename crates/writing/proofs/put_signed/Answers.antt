use borrow.Author.Tests.{lt-ltb, le-ltb}
use Rattle.writing.specs.Writing.{signed}
use Rattle.writing.proofs.Writes.{wrote_then}
use Rattle.writing.proofs.put_signed.Goals as goal

pub returns-then-v-lt-NOUGHT : goal.returns-then-v-lt-NOUGHT
unfolding signed
returns-then-v-lt-NOUGHT c = rw (lt-ltb _ 1000000000 c.if-v-lt-NOUGHT.true) (wrote_then c.put-next.ensures c.put_decimal.ensures)

pub returns : goal.returns
unfolding signed
returns c = rw (le-ltb _ 1000000000 c.if-v-lt-NOUGHT.false) (wrote_then c.put-next-2.ensures c.put_decimal-2.ensures)
