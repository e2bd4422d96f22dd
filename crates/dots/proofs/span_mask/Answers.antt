use mathlib.Core.Path.{◌∙◌}
use native.Mathlib.Omega.{arith}
use Rattle.dots.proofs.Bits.{span-byte, span-cut}
use Rattle.dots.proofs.span_mask.Goals as goal

pub overflow_sub-result : goal.overflow_sub-result
overflow_sub-result c = (span-byte c.min-start.result c.min-end.result (omega arith) (omega arith)).0

pub returns : goal.returns
returns c = let a = c.args in
    (span-byte c.min-start.result c.min-end.result (omega arith) (omega arith)).1
    ∙ span-cut a.lo a.hi c.min-start.result c.min-end.result c.min-end.ensures c.min-start.ensures
