use native.Mathlib.Omega.{arith}
use Prim.Native.Nat.{◌-◌}
use Rattle.mending.specs.Mending.{kept_directory}
use Rattle.mending.proofs.Parts.{mapped-start, mapped-part, mapped-done, entry-part}
use Rattle.mending.proofs.mend_directory.Goals as goal

pub loop-i-init : goal.loop-i-init
loop-i-init c = mapped-start _ _

pub loop-i-preserved : goal.loop-i-preserved
loop-i-preserved c = mapped-part _ _ _ _ _ _ (entry-part _ _ _ _ c.kept_of-n.ensures) c.loop-i.invariant _ _ c.zero_behind.ensures (omega arith)

pub shape_of-directory : goal.shape_of-directory
shape_of-directory c = c.loop-i.invariant.long

pub returns : goal.returns
unfolding kept_directory
returns c = mapped-done _ _ _ _ (omega (arith, c.loop-i-test.false)) c.loop-i.invariant
