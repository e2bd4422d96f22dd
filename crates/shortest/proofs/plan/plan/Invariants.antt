use Rattle.shortest.proofs.Planning.{Planning}
use Rattle.shortest.proofs.plan.plan.Given as goal

abbrev pub invariant-loop-i : goal.invariant-loop-i
invariant-loop-i l = Planning l.s l.initial.marks l.marks l.m l.i
