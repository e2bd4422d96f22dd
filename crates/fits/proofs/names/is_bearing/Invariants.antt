use Prim.Native.Nat.{◌-◌}
use lib.ListN.{length}
use Rattle.store.specs.Entry.{entry}
use Rattle.fits.proofs.Bearing.{Compared}
use Rattle.fits.proofs.names.is_bearing.Given as goal

abbrev pub invariant-loop-k : goal.invariant-loop-k
invariant-loop-k l = Compared (entry l.directory l.i) l.name l.k
