use Rattle.symbols.proofs.Lists.{Writing}
use Rattle.symbols.proofs.row.put.Given as goal

abbrev pub invariant-loop-left : goal.invariant-loop-left
invariant-loop-left l = Writing l.initial.out l.at l.row l.n l.out l.left l.rest
