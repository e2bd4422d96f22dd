use Prim.Native.Nat.{◌-◌}
use Rattle.memory.specs.Memory.{memory}
use Rattle.erasing.proofs.Freeing.{Freeing}
use Rattle.erasing.proofs.free_chain.Given as goal

abbrev pub invariant-loop : goal.invariant-loop
invariant-loop l = Freeing (memory l.initial.store l.initial.links l.directory) l.first l.n l.store l.links l.p (l.n - l.counter)
