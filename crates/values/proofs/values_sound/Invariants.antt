use Prim.Native.Nat.{◌-◌}
use mathlib.Core.Path.{◌≡◌}
use Rattle.declarations.specs.Declarations.{every}
use Rattle.values.specs.Sound.{sound_at}
use Rattle.values.proofs.values_sound.Given as goal

abbrev pub invariant-loop-k : goal.invariant-loop-k
invariant-loop-k l = every (sound_at l.d l.values l.c) (10 - l.k) l.k ≡ every (sound_at l.d l.values l.c) 10 0
