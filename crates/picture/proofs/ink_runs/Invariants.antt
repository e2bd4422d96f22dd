use Rattle.picture.proofs.Drawing.{Drawing}
use Rattle.picture.proofs.ink_runs.Given as goal

abbrev pub invariant-loop-i : goal.invariant-loop-i
invariant-loop-i l = Drawing l.p l.bytes l.i l.n l.q l.initial.page l.page
