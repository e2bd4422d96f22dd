use Prim.Native.Nat.{◌+◌, ◌-◌}
use Rattle.store.specs.Entry.{entry, first}
use Rattle.store.proofs.Chains.{Walking}
use Rattle.store.proofs.last_at.Given as goal

abbrev pub invariant-loop : goal.invariant-loop
invariant-loop l = Walking l.links (first (entry l.directory l.i)) l.many l.p (l.many + 1 - l.counter)
