use Prim.Native.Nat.{◌-◌}
use Rattle.verdicts.proofs.Walks.{Filling}
use Rattle.verdicts.proofs.chains.fill_chain.Given as goal

abbrev pub invariant-loop : goal.invariant-loop
invariant-loop l = Filling l.links l.initial.fills l.first l.n l.size l.fills l.p (l.n - l.counter) l.left
