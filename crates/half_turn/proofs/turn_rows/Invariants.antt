use Prim.Native.Nat.{◌-◌, ◌*◌}
use Rattle.half_turn.proofs.Turned.{Turned}
use Rattle.half_turn.proofs.turn_rows.Given as goal

abbrev pub invariant-loop-i : goal.invariant-loop-i
invariant-loop-i l = Turned (l.n * 76) l.initial.page l.page l.i (l.n * 76 - l.i)
