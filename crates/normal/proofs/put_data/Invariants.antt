use Prim.Native.Nat.{◌-◌}
use lib.ListN.{length}
use Rattle.elements.specs.Elements.{elements}
use Rattle.normal.specs.Written.{data_written}
use Rattle.writing.proofs.Writes.{Rest}
use Rattle.normal.proofs.put_data.Given as goal

abbrev pub invariant-loop-i : goal.invariant-loop-i
invariant-loop-i l = Rest l.initial.out l.at (data_written l.line (elements l.line l.p)) l.out l.place (data_written l.line (elements l.line l.i))

abbrev pub decreases-loop-i : goal.decreases-loop-i
decreases-loop-i l = length l.line - l.i
