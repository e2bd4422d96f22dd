use Prim.Native.Nat.{◌-◌}
use lib.ListN.{length}
use Rattle.verdicts.proofs.Walks.{Walking}
use Rattle.verdicts.proofs.chains.walk_length.Given as goal

abbrev pub invariant-loop-k : goal.invariant-loop-k
invariant-loop-k l = Walking l.links l.first l.p l.k
