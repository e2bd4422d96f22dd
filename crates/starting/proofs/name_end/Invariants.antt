use Prim.Native.Nat.{ℕ}
use lib.ListN.{get_or}
use lib.Dec.{eqb}
use Rattle.cells.proofs.Scan.{Seeking}
use Rattle.starting.proofs.name_end.Given as goal

abbrev pub invariant-loop-k : goal.invariant-loop-k
invariant-loop-k l = Seeking (λ (j : ℕ). eqb (get_or l.b-items j 0) 0) 8 l.k
