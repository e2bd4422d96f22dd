use mathlib.Core.Path.{◌≡◌}
use Prim.Native.Nat.{◌<◌}
use lib.ListN.{drop}
use Rattle.file_parts.specs.Sums.{prime, summed, sum_on}
use Rattle.file_parts.proofs.sum.Given as goal

abbrev pub invariant-loop-b : goal.invariant-loop-b
invariant-loop-b l = (summed l.s (drop l.b-index l.bytes) ≡ sum_on l.start l.bytes) × (l.s < prime)
