use mathlib.Core.Path.{ap, ◌∙◌}
use native.Mathlib.Omega.{arith}
use Rattle.code128.specs.Widths.{sum}
use Rattle.bars.proofs.Stroking.{part_length, widths-front}
use Rattle.bars.proofs.breadth.Goals as goal

pub slice_bounds-total-end : goal.slice_bounds-total-end
slice_bounds-total-end c = part_length _ _ _ _ c.elements-n.ensures.0 c.elements-n.ensures.1 (omega arith)

pub total-requires : goal.total-requires
total-requires c = let p = c.elements-n.ensures in
    omega (arith, part_length _ _ c.elements-n.new.out _ p.0 p.1 (omega arith), p.1)

pub returns : goal.returns
returns c = let p = c.elements-n.ensures in
    let a = c.args in (
      c.total.ensures.0 ∙ ap sum (widths-front a.by.kind a.by.e a.by.f _ a.bytes.now _ _ p.0 p.1 (omega arith)),
      omega (arith, c.total.ensures.1, part_length _ _ c.elements-n.new.out _ p.0 p.1 (omega arith), p.1),
    )
