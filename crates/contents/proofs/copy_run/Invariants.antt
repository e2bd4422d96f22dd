use mathlib.Core.Path.{◌≡◌}
use Rattle.contents.specs.Run.{copied}
use Rattle.contents.proofs.copy_run.Given as goal

abbrev pub invariant-loop-j : goal.invariant-loop-j
invariant-loop-j l = l.out ≡ copied l.initial.out l.k l.store l.from l.j
