use lib.ListN.{length, drop}
use Rattle.shortest.specs.Found.{best, in_set}
use Rattle.shortest.proofs.Placing.{Placing}
use Rattle.shortest.proofs.steps.behind_start.Given as goal

abbrev pub invariant-loop-i : goal.invariant-loop-i
invariant-loop-i l = Placing l.s l.initial.out l.initial.here l.out l.here l.k l.i

abbrev pub decreases-loop-i : goal.decreases-loop-i
decreases-loop-i l = length (in_set l.here (best (drop l.i l.s)))
