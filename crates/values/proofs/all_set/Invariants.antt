use Prim.Native.Nat.{◌-◌}
use mathlib.Core.Path.{◌≡◌}
use Rattle.declarations.specs.Declarations.{every}
use Rattle.values.specs.Sound.{set_at}
use Rattle.values.proofs.all_set.Given as goal

abbrev pub invariant-loop-k : goal.invariant-loop-k
invariant-loop-k l = every (set_at l.d l.values l.c) (10 - l.k) l.k ≡ every (set_at l.d l.values l.c) 10 0
