use mathlib.Core.List.{map}
use Rattle.bars.specs.Drawing.{dots_of}
use Rattle.bars.proofs.Stroking.{Stroking}
use Rattle.bars.proofs.strokes.Given as goal

abbrev pub invariant-loop-w : goal.invariant-loop-w
invariant-loop-w l = Stroking l.spot.corner.size.width l.spot.corner.size.length l.spot.corner.x l.spot.corner.y l.spot.corner.r l.spot.wide l.spot.high (map (dots_of l.by.kind l.by.e l.by.f) l.ws) l.initial.page l.page l.bar l.at l.w-index
