use Prim.Native.Nat.{◌-◌}
use lib.ListN.{length}
use Rattle.mending.specs.Mending.{kept_link}
use Rattle.mending.proofs.Parts.{Mapped}
use Rattle.mending.proofs.mend_links.Given as goal

abbrev pub invariant-loop-q : goal.invariant-loop-q
invariant-loop-q l = Mapped (kept_link l.initial.links l.fills) l.initial.links l.links l.q
