use Rattle.image.proofs.Ten.{rest}
use lib.ListN.{length}
use Prim.Native.Nat.{◌-◌}
use mathlib.Core.Path.{◌≡◌}
use Rattle.image.proofs.put_counters.Given as goal

abbrev pub invariant-loop-k : goal.invariant-loop-k
invariant-loop-k l = (rest l.image l.k (record { set = l.set; value = l.value }) ≡ rest l.initial.image 0 (record { set = l.set; value = l.value })) × (length l.image ≡ length l.initial.image)
