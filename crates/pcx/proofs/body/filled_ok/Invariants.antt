use Rattle.pcx.proofs.Runs.{Passing}
use Rattle.pcx.proofs.body.filled_ok.Given as goal

abbrev pub invariant-loop-i : goal.invariant-loop-i
invariant-loop-i l = Passing l.bytes l.i l.n l.count
