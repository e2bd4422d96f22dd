use Rattle.symbols.proofs.Checks.{Summing}
use Rattle.symbols.proofs.ean.check_digit.Given as goal

abbrev pub invariant-loop-i : goal.invariant-loop-i
invariant-loop-i l = Summing l.s l.i l.sum
