use Prim.Native.Nat.{◌-◌, ◌^◌, ◌<◌}
use mathlib.Core.Path.{◌≡◌}
use lib.ListN.{length}
use Rattle.classes.specs.Bytes.{part}
use Rattle.numbers.specs.Number.{value_from}
use Rattle.numbers.proofs.value.Given as goal

abbrev pub invariant-loop-b : goal.invariant-loop-b
invariant-loop-b l = (l.v < 10 ^ l.b-index) × (value_from l.v (part l.b-items l.b-index (length l.b-items - l.b-index)) ≡ value_from 0 l.b-items)
