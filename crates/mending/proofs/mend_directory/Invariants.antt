use Prim.Native.Nat.{◌-◌, ◌+◌, ◌*◌, ◌/◌}
use lib.ListN.{length}
use Rattle.mending.specs.Mending.{kept_byte}
use Rattle.mending.proofs.Parts.{Mapped}
use Rattle.mending.proofs.mend_directory.Given as goal

abbrev pub invariant-loop-i : goal.invariant-loop-i
invariant-loop-i l = Mapped (kept_byte l.initial.directory l.verdicts) l.initial.directory l.directory (l.i * 16)
