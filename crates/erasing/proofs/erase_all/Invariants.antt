use Prim.Native.Nat.{◌-◌}
use Rattle.memory.specs.Memory.{memory}
use Rattle.erasing.proofs.Freeing.{Erasing}
use Rattle.erasing.proofs.erase_all.Given as goal

abbrev pub invariant-loop-i : goal.invariant-loop-i
invariant-loop-i l = Erasing l.picture (memory l.initial.store l.initial.links l.initial.directory) l.n (memory l.store l.links l.directory) l.i
