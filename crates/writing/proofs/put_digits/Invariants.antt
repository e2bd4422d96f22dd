use Prim.Native.Nat.{◌+◌, ◌-◌, ◌^◌, ◌≤◌, ◌<◌}
use mathlib.Core.Path.{◌≡◌}
use mathlib.Core.List.{[]}
use lib.ListN.{length, drop}
use Rattle.writing.specs.Writing.{digits}
use Rattle.writing.proofs.put_digits.Given as goal

abbrev pub invariant-loop-m : goal.invariant-loop-m
invariant-loop-m l = (l.k ≤ 19) × (l.m < 10 ^ (l.k + 1)) × (length l.d ≡ 20) × (digits l.k l.m (drop (l.k + 1) l.d) ≡ digits 19 l.n [])

abbrev pub decreases-loop-m : goal.decreases-loop-m
decreases-loop-m l = l.k
