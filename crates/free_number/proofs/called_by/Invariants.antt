use Prim.Native.Nat.{◌-◌}
use Rattle.free_number.proofs.Calling.{Calling}
use Rattle.free_number.proofs.called_by.Given as goal

abbrev pub invariant-loop-i : goal.invariant-loop-i
invariant-loop-i l = Calling l.picture l.directory l.n l.i
