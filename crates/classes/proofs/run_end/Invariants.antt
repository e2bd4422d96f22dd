use Prim.Native.Nat.{◌+◌}
use mathlib.Core.Path.{◌≡◌}
use lib.ListN.{drop}
use Rattle.classes.specs.Bytes.{run}
use Rattle.classes.proofs.run_end.Given as goal

abbrev pub invariant-loop-i : goal.invariant-loop-i
invariant-loop-i l = l.i + run l.k (drop l.i l.line) ≡ l.at + run l.k (drop l.at l.line)
