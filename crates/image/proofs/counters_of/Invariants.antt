use Rattle.image.proofs.Ten.{fill}
use Rattle.image.specs.Image.{every_five}
use Prim.Native.Nat.{◌-◌}
use mathlib.Core.Path.{◌≡◌}
use Rattle.image.proofs.counters_of.Given as goal

abbrev pub invariant-loop-k : goal.invariant-loop-k
invariant-loop-k l = (fill 1 l.image 15 (10 - l.k) l.k l.set ≡ every_five 1 10 l.image 15) × (fill 4 l.image 16 (10 - l.k) l.k l.value ≡ every_five 4 10 l.image 16)
