use Prim.Native.Nat.{◌≤◌}
use mathlib.Core.Path.{◌≡◌}
use lib.Seq.{sets}
use Rattle.counters.specs.Counters.{digits, digits_of}
use Rattle.counters.proofs.digits_of.Given as goal

abbrev pub invariant-loop-left : goal.invariant-loop-left
invariant-loop-left l = (l.left ≤ 9) × (sets l.out 0 (digits l.left l.rest) ≡ digits_of l.n l.w)
