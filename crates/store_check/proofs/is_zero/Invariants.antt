use mathlib.Core.Path.{◌≡◌}
use mathlib.Core.Bool.{◌&&◌}
use lib.ListN.{drop}
use lib.Dec.{eqb}
use Rattle.cells.specs.Count.{all_zero}
use Rattle.store_check.proofs.is_zero.Given as goal

abbrev pub invariant-loop-b : goal.invariant-loop-b
invariant-loop-b l = (eqb l.any 0 && all_zero (drop l.b-index l.s)) ≡ all_zero l.s
