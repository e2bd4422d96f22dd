use Rattle.half_turn.proofs.Turned.{Shifted}
use Rattle.half_turn.proofs.shift_rows.Given as goal

abbrev pub invariant-loop-i : goal.invariant-loop-i
invariant-loop-i l = Shifted l.s l.initial.page l.page l.i
