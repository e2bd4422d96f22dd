use Rattle.code128.proofs.Weighing.{Weighing}
use Rattle.code128.proofs.check.Given as goal

abbrev pub invariant-loop-i : goal.invariant-loop-i
invariant-loop-i l = Weighing l.symbols l.i l.sum
