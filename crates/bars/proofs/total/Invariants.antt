use mathlib.Core.List.{map}
use Rattle.bars.specs.Drawing.{dots_of}
use Rattle.bars.proofs.Stroking.{Adding}
use Rattle.bars.proofs.total.Given as goal

abbrev pub invariant-loop-w : goal.invariant-loop-w
invariant-loop-w l = Adding (map (dots_of l.by.kind l.by.e l.by.f) l.ws) l.w-index l.sum
