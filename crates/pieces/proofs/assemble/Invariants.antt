use mathlib.Core.Path.{◌≡◌}
use Prim.Native.Nat.{◌-◌}
use lib.ListN.{length}
use Rattle.elements.specs.Elements.{elements}
use Rattle.pieces.specs.Data.{values_in, row}
use Rattle.pieces.proofs.Laying.{laid}
use Rattle.pieces.proofs.assemble.Given as goal

abbrev pub invariant-loop-i : goal.invariant-loop-i
invariant-loop-i l = (length l.out ≡ length l.initial.out) × (laid l.line l.d (values_in l.values l.c l.clock) (row l.n l.out) (elements l.line l.i) ≡ laid l.line l.d (values_in l.values l.c l.clock) (row 0 l.initial.out) (elements l.line l.at))

abbrev pub decreases-loop-i : goal.decreases-loop-i
decreases-loop-i l = length l.line - l.i
