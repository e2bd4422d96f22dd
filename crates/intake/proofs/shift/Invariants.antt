use Prim.Native.Nat.{◌-◌}
use Rattle.intake.proofs.Moving.{part, Shifting}
use Rattle.intake.proofs.shift.Given as goal

abbrev pub invariant-loop-i : goal.invariant-loop-i
invariant-loop-i l = Shifting l.initial.window (part l.initial.window l.start l.end) l.window l.i
