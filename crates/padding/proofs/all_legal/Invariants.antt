use Prim.Native.Nat.{◌-◌}
use mathlib.Core.Path.{◌≡◌}
use lib.ListN.{length, drop}
use Rattle.kinds.specs.Bytes.{all_in}
use Rattle.padding.specs.Padding.{legal}
use Rattle.padding.proofs.all_legal.Given as goal

abbrev pub invariant-loop-b : goal.invariant-loop-b
invariant-loop-b l = all_in legal (drop l.b-index l.text) ≡ all_in legal l.text
