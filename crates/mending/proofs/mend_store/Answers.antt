use native.Mathlib.Omega.{arith}
use Prim.Native.Nat.{◌-◌}
use Rattle.mending.specs.Mending.{kept_store}
use Rattle.mending.proofs.Parts.{mapped-start, mapped-part, mapped-done, portion-part}
use Rattle.mending.proofs.mend_store.Goals as goal

pub loop-q-init : goal.loop-q-init
loop-q-init c = mapped-start _ _

pub loop-q-preserved : goal.loop-q-preserved
loop-q-preserved c = mapped-part _ _ _ _ _ _ (portion-part _ _ _ _ _ c.link_at.ensures.0 c.less-n.ensures) c.loop-q.invariant _ _ c.zero_behind.ensures (omega arith)

pub shape_of-store : goal.shape_of-store
shape_of-store c = c.loop-q.invariant.long

pub returns : goal.returns
unfolding kept_store
returns c = mapped-done _ _ _ _ (omega (arith, c.loop-q-test.false)) c.loop-q.invariant
