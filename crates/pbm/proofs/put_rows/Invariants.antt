use mathlib.Core.Path.{◌≡◌}
use Prim.Native.Nat.{◌-◌}
use lib.ListN.{length}
use Rattle.writing.proofs.Writes.{Rest}
use Rattle.pbm.specs.Pbm.{rows_from}
use Rattle.pbm.proofs.put_rows.Given as goal

abbrev pub invariant-loop-y : goal.invariant-loop-y
invariant-loop-y l = Rest l.initial.out l.at (rows_from l.page l.width 0 l.n) l.out l.place (rows_from l.page l.width l.y (l.n - l.y)) × (length l.out ≡ length l.initial.out)
