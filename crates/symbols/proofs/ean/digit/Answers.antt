use native.Mathlib.Omega.{arith}
use Rattle.symbols.proofs.FillEan.{check-small, checked-front, checked-last}
use Rattle.symbols.proofs.ean.digit.Goals as goal

pub returns-then-q-s : goal.returns-then-q-s
returns-then-q-s c = checked-front _ _ c.if-q-s.true

pub overflow_add-result : goal.overflow_add-result
overflow_add-result c = omega (arith, c.requires.0, check-small c.args.s.now)

pub returns : goal.returns
returns c = checked-last _ _ _ c.if-q-s.false c.requires.1 c.requires.0
