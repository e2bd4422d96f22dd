use Rattle.pbm.proofs.Rows.{none_yet}
use mathlib.Core.Path.{refl, ap, ◌∙◌}
use Prim.Native.Nat.{◌-◌}
use native.Mathlib.Omega.{arith}
use Rattle.writing.proofs.Writes.{wrote-length, wrote-same}
use Rattle.pbm.specs.Pbm.{row_from}
use Rattle.pbm.proofs.Rows.{row_next, row_last}
use Rattle.pbm.proofs.put_row.Goals as goal

pub loop-j-preserved : goal.loop-j-preserved
loop-j-preserved c = (row_next _ _ _ _ _ c.loop-j-test.true c.loop-j.invariant.0 c.put_byte-place.ensures, wrote-length c.put_byte-place.ensures ∙ c.loop-j.invariant.1)

pub returns : goal.returns
returns c = let a = c.args in
    wrote-same (row_last _ _ _ _ _ c.loop-j-test.false c.loop-j.invariant.0) (ap (row_from a.page.now a.width a.from 0) c.row_bytes-n.ensures.0)
