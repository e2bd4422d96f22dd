use Prim.Native.Nat.{◌-◌}
use Rattle.listing.proofs.Run.{Listing}
use Rattle.listing.proofs.lines.Given as goal

abbrev pub invariant-loop-i : goal.invariant-loop-i
invariant-loop-i l = Listing l.directory l.k l.initial.output l.output l.at l.i
