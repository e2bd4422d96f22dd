use Prim.Native.Nat.{◌-◌}
use lib.ListN.{length}
use Rattle.fitness.proofs.Walked.{Walked}
use Rattle.fitness.proofs.judge.Given as goal

abbrev pub invariant-loop-i : goal.invariant-loop-i
invariant-loop-i l = Walked l.line l.at l.d l.kind l.past l.s l.i

abbrev pub decreases-loop-i : goal.decreases-loop-i
decreases-loop-i l = length l.line - l.i
