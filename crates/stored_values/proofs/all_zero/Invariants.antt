use Prim.Native.Nat.{◌-◌}
use mathlib.Core.Path.{◌≡◌}
use lib.ListN.{length, drop}
use Rattle.kinds.specs.Bytes.{all_in}
use Rattle.stored_values.specs.Stored.{is_zero}
use Rattle.stored_values.proofs.all_zero.Given as goal

abbrev pub invariant-loop-b : goal.invariant-loop-b
invariant-loop-b l = all_in is_zero (drop l.b-index l.s) ≡ all_in is_zero l.s
