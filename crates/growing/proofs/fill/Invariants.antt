use Rattle.growing.proofs.Growth.{Filling}
use Rattle.growing.proofs.fill.Given as goal

abbrev pub invariant-loop-b : goal.invariant-loop-b
invariant-loop-b l = Filling l.initial.store l.initial.links l.last l.size l.bytes l.store l.links l.at l.n l.b-index
