use mathlib.Core.Path.{refl, ◌∙◌}
use Prim.Native.Nat.{◌-◌}
use native.Mathlib.Omega.{arith}
use Rattle.writing.proofs.Writes.{wrote-length}
use Rattle.pbm.specs.Pbm.{rows_from}
use Rattle.pbm.proofs.Rows.{none_yet, rows_next, rows_last}
use Rattle.pbm.proofs.put_rows.Goals as goal

pub loop-y-preserved : goal.loop-y-preserved
loop-y-preserved c = (rows_next _ _ _ _ c.loop-y-test.true c.loop-y.invariant.0 c.put_row-place.ensures, wrote-length c.put_row-place.ensures ∙ c.loop-y.invariant.1)

pub returns : goal.returns
returns c = rows_last _ _ _ _ c.loop-y-test.false c.loop-y.invariant.0
