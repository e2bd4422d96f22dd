use Prim.Native.Nat.{◌-◌}
use Rattle.memory.specs.Memory.{memory}
use Rattle.verdicts.proofs.Judging.{Judging}
use Rattle.verdicts.proofs.judge.Given as goal

abbrev pub invariant-loop-i : goal.invariant-loop-i
invariant-loop-i l = Judging (memory l.store l.links l.directory) l.initial.verdicts l.initial.fills l.verdicts l.fills l.i
