use Rattle.symbols.specs.Elements.{spaced}
use Rattle.symbols.proofs.Lists.{Filling}
use Rattle.symbols.proofs.code39.body.Given as goal

abbrev pub invariant-loop-i : goal.invariant-loop-i
invariant-loop-i l = Filling spaced 10 10 l.s l.initial.out l.out l.i
