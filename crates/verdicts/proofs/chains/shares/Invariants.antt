use Prim.Native.Nat.{◌-◌}
use Rattle.verdicts.proofs.Walks.{Meeting}
use Rattle.verdicts.proofs.chains.shares.Given as goal

abbrev pub invariant-loop : goal.invariant-loop
invariant-loop l = Meeting l.links l.fills l.first l.n l.p (l.n - l.counter)
