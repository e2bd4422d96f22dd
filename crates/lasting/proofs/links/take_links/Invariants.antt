use mathlib.Core.Path.{◌≡◌}
use Prim.Native.Nat.{◌-◌}
use lib.ListN.{length}
use Rattle.lasting.proofs.LinkSteps.{taking}
use Rattle.lasting.proofs.links.take_links.Given as goal

abbrev pub invariant-loop-i : goal.invariant-loop-i
invariant-loop-i l = (taking l.file l.at l.i l.links ≡ taking l.file l.at 0 l.initial.links) × (length l.links ≡ length l.initial.links)
