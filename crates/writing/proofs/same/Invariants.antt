use Prim.Native.Nat.{◌-◌}
use mathlib.Core.Path.{◌≡◌}
use mathlib.Core.Bool.{◌&&◌}
use lib.Dec.{eqb}
use lib.ListN.{length, drop}
use Rattle.writing.specs.Writing.{equal}
use Rattle.writing.proofs.same.Given as goal

abbrev pub invariant-loop-i : goal.invariant-loop-i
invariant-loop-i l = (eqb l.any 0 && equal (drop l.i l.a) (drop l.i l.b)) ≡ equal l.a l.b
