use mathlib.Core.Path.{sym}
use mathlib.Core.List.{[]}
use native.Mathlib.Omega.{arith}
use Rattle.writing.proofs.Writes.{digits_last, digits-two, wrote-same, wrote_then}
use Rattle.writing.proofs.put_decimal.Goals as goal

pub returns-then-n-lt10 : goal.returns-then-n-lt10
returns-then-n-lt10 c = let b = c.digit_byte in
    wrote-same c.put.ensures (rw b.ensures (sym (digits_last 19 _ [] c.if-n-lt10.true)))

pub returns-then-n-lt100 : goal.returns-then-n-lt100
returns-then-n-lt100 c = let first = c.digit_byte-then-n-lt100 in
    let second = c.digit_byte-then-n-lt100-2 in
    wrote-same (wrote_then c.put-next.ensures c.put-then-n-lt100.ensures)
    (rw (first.ensures, second.ensures) (sym (digits-two 19 _ (omega arith) c.if-n-lt10.false c.if-n-lt100.true)))
