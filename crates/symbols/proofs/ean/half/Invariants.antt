use Rattle.symbols.proofs.FillEan.{Halving}
use Rattle.symbols.proofs.ean.half.Given as goal

abbrev pub invariant-loop-i : goal.invariant-loop-i
invariant-loop-i l = Halving l.which l.s l.q l.at l.initial.out l.out l.i
