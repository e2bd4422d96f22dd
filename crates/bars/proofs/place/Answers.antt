use mathlib.Core.Path.{refl}
use native.Mathlib.Omega.{arith}
use Rattle.bars.proofs.Stroking.{part_length, strokes-drawn}
use Rattle.bars.proofs.place.Goals as goal

pub slice_bounds-strokes-end-2 : goal.slice_bounds-strokes-end-2
slice_bounds-strokes-end-2 c = part_length _ _ _ _ c.elements-n.ensures.0 c.elements-n.ensures.1 c.requires.2

pub strokes-requires : goal.strokes-requires
strokes-requires c = omega (arith, part_length _ _ c.elements-n.new.out _ c.elements-n.ensures.0 c.elements-n.ensures.1 c.requires.2, c.elements-n.ensures.1)

pub returns : goal.returns
returns c = let a = c.args in
    strokes-drawn a.corner.size.width a.corner.size.length a.corner.x a.corner.y a.corner.r a.b.g _ _ _ _ _ _ _ _ _ _ a.page.now _ refl refl c.elements-n.ensures.0 c.elements-n.ensures.1 c.requires.2
    c.total.ensures.0 c.strokes.ensures
