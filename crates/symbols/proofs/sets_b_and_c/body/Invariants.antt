use Rattle.code128.specs.Code128.{six}
use Rattle.symbols.proofs.Lists.{Filling}
use Rattle.symbols.proofs.sets_b_and_c.body.Given as goal

abbrev pub invariant-loop-i : goal.invariant-loop-i
invariant-loop-i l = Filling six 6 0 l.values l.initial.out l.out l.i
