use Prim.Native.Nat.{◌-◌}
use mathlib.Core.Path.{◌≡◌}
use Rattle.declarations.specs.Declarations.{every}
use Rattle.counter_steps.specs.Steps.{lasts_at}
use Rattle.counter_steps.proofs.lasts.Given as goal

abbrev pub invariant-loop-k : goal.invariant-loop-k
invariant-loop-k l = every (lasts_at l.d l.c l.n) (10 - l.k) l.k ≡ every (lasts_at l.d l.c l.n) 10 0
