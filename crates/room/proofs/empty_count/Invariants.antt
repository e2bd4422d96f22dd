use Prim.Native.Nat.{◌-◌}
use Rattle.room.proofs.Counting.{Counting}
use Rattle.room.proofs.empty_count.Given as goal

abbrev pub invariant-loop-i : goal.invariant-loop-i
invariant-loop-i l = Counting l.directory l.n l.i
