use Prim.Native.Nat.{◌-◌, ◌+◌, ◌*◌, ◌/◌}
use lib.ListN.{length}
use Rattle.mending.specs.Mending.{kept_content}
use Rattle.mending.proofs.Parts.{Mapped}
use Rattle.mending.proofs.mend_store.Given as goal

abbrev pub invariant-loop-q : goal.invariant-loop-q
invariant-loop-q l = Mapped (kept_content l.initial.store l.fills) l.initial.store l.store (l.q * 256)
