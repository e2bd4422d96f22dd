use mathlib.Core.Path.{◌≡◌}
use Prim.Native.Nat.{◌-◌}
use native.Mathlib.Omega.{arith}
use Rattle.writing.proofs.Writes.{wrote_none, wrote-length}
use Rattle.verdict_list.specs.Lines.{lines_to}
use Rattle.verdict_list.proofs.Listed.{lines_more}
use Rattle.verdict_list.proofs.list.Goals as goal

pub loop-i-init : goal.loop-i-init
unfolding lines_to
loop-i-init c = (omega arith, wrote_none _ 0 (omega arith))

pub loop-i-preserved : goal.loop-i-preserved
loop-i-preserved c = (omega arith, lines_more _ _ _ _ _ _ _ c.loop-i.invariant.1 c.put_entry-at.ensures)

pub shape_of-output : goal.shape_of-output
shape_of-output c = wrote-length c.loop-i.invariant.1

pub returns : goal.returns
returns c = let e : c.loop-i.i ≡ 512 = omega arith in rw e at c.loop-i.invariant.1
