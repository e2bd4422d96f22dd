use Rattle.std.proofs.Common.{rules}
use mathlib.Core.Path.{sym}
use Rattle.row_fields.proofs.Rows.{refused-at}
use native.Mathlib.Omega.{arith}
use Rattle.normal.specs.Written.{head_written}
use Rattle.writing.proofs.Writes.{wrote_none, wrote-same}
use Rattle.normal.proofs.Writes.{written-bad, written-good}
use Rattle.normal.proofs.write.Goals as goal

pub returns-in_default : goal.returns-in_default
unfolding head_written
returns-in_default c = rw (← c.head_of.ensures, c.in_default.is) (wrote_none _ _ (omega arith))

pub returns-then-is_err : goal.returns-then-is_err
unfolding head_written
returns-then-is_err c = let f = c.read_fields in
    let q = refused-at f.result (λ e. search rules) in
    rw (← c.head_of.ensures, c.in-Some.is)
    (wrote-same (wrote_none _ _ (omega arith)) (sym (written-bad _ c.args.line.now _ f.result _ _ _ _ q.0 f.ensures q.1)))

pub returns : goal.returns
unfolding head_written
returns c = let f = c.read_fields in
    rw (← c.head_of.ensures, c.in-Some.is)
    (wrote-same c.put_row.ensures (sym (written-good _ c.args.line.now f.result _ _ f.ensures (search rules))))
