use mathlib.Core.Path.{◌≡◌}
use Prim.Native.Nat.{◌-◌}
use Rattle.wall_clock.proofs.Steps.{onward}
use Rattle.wall_clock.proofs.advance.Given as goal

abbrev pub invariant-loop-left : goal.invariant-loop-left
invariant-loop-left l = onward l.clock l.left ≡ onward l.initial.clock l.initial.left

abbrev pub decreases-loop-left : goal.decreases-loop-left
decreases-loop-left l = l.left

-- src/lib.rt:61:9
