use Prim.Native.Nat.{◌-◌}
use native.Mathlib.Omega.{arith}
use Rattle.contents.proofs.Runs.{copied-long, copied_none, copied_more, copied_all}
use Rattle.contents.proofs.copy_run.Goals as goal

pub returns-then-store-p : goal.returns-then-store-p
returns-then-store-p c = (omega arith, omega arith, copied_none _ _ _ _)

pub returns-then-at-ge-LAST_PLACE : goal.returns-then-at-ge-LAST_PLACE
returns-then-at-ge-LAST_PLACE c = (omega arith, omega arith, copied_none _ _ _ _)

pub loop-j-init : goal.loop-j-init
loop-j-init c = copied_none _ _ _ _

pub bounds-out-k : goal.bounds-out-k
bounds-out-k c = omega (arith, copied-long _ _ _ _ _ _ c.loop-j.invariant, c.least-n.ensures)

pub loop-j-preserved : goal.loop-j-preserved
loop-j-preserved c = copied_more _ _ _ _ _ _ c.loop-j.invariant

pub shape_of-out : goal.shape_of-out
shape_of-out c = copied-long _ _ _ _ _ _ c.loop-j.invariant
