use Rattle.std.proofs.Common.{rules}
use mathlib.Core.Path.{◌∙◌, sym}
use native.Mathlib.Omega.{arith}
use Rattle.classes.proofs.Laws.{in-range, below-range, above-range}
use Rattle.row_fields.proofs.Rows.{refused-at}
use Rattle.front.proofs.Sizes.{size-bad, size-good}
use Rattle.front.proofs.input.size.Goals as goal

pub returns-then-is_err : goal.returns-then-is_err
returns-then-is_err c = let f = c.read_fields in
    let q = refused-at f.result (λ e. search rules) in
    (sym (size-bad _ f.result _ _ _ _ q.0 f.ensures q.1), omega arith)

pub returns-then-n-lt1 : goal.returns-then-n-lt1
returns-then-n-lt1 c = let f = c.read_fields in (sym (size-good c.args.line.now f.result _ _ f.ensures (search rules) ∙ rw (below-range 1 32768 _ c.if-n-lt1.true)), omega arith)

pub returns-then-n-gt32768 : goal.returns-then-n-gt32768
returns-then-n-gt32768 c = let f = c.read_fields in (sym (size-good c.args.line.now f.result _ _ f.ensures (search rules) ∙ rw (above-range 1 32768 _ c.if-n-gt32768.true)), omega arith)

pub returns : goal.returns
returns c = let f = c.read_fields in (sym (size-good c.args.line.now f.result _ _ f.ensures (search rules) ∙ rw (in-range 1 32768 _ c.if-n-lt1.false c.if-n-gt32768.false)), omega arith)
