use mathlib.Core.Path.{◌≡◌}
use Prim.Native.Nat.{◌-◌}
use lib.ListN.{length}
use Rattle.lasting.proofs.LinkSteps.{putting}
use Rattle.lasting.proofs.links.put_links.Given as goal

abbrev pub invariant-loop-i : goal.invariant-loop-i
invariant-loop-i l = (putting l.links l.at l.i l.file ≡ putting l.links l.at 0 l.initial.file) × (length l.file ≡ length l.initial.file)
