use mathlib.Core.Path.{◌≡◌}
use Prim.Native.Nat.{◌-◌}
use lib.ListN.{length}
use Rattle.writing.proofs.Writes.{Rest}
use Rattle.pbm.specs.Pbm.{row_from}
use Rattle.pbm.proofs.put_row.Given as goal

abbrev pub invariant-loop-j : goal.invariant-loop-j
invariant-loop-j l = Rest l.initial.out l.at (row_from l.page l.width l.from 0 l.n) l.out l.place (row_from l.page l.width l.from l.j (l.n - l.j)) × (length l.out ≡ length l.initial.out)
