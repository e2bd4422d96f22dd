use Prim.Native.Nat.{◌-◌}
use Rattle.erasing.proofs.Freeing.{erasing-start, erasing-step, erasing-done, erasing-long}
use Rattle.erasing.proofs.erase_all.Goals as goal

pub loop-i-init : goal.loop-i-init
loop-i-init c = erasing-start _ _ _

pub loop-i-preserved : goal.loop-i-preserved
loop-i-preserved c = erasing-step _ _ _ _ _ _ c.loop-i-test.true c.loop-i.invariant c.erase_if.ensures

pub shape_of-store : goal.shape_of-store
shape_of-store c = (erasing-long _ _ _ _ _ c.loop-i.invariant).store

pub shape_of-links : goal.shape_of-links
shape_of-links c = (erasing-long _ _ _ _ _ c.loop-i.invariant).links

pub shape_of-directory : goal.shape_of-directory
shape_of-directory c = (erasing-long _ _ _ _ _ c.loop-i.invariant).directory

pub returns : goal.returns
returns c = erasing-done _ _ _ _ _ c.loop-i-test.false c.loop-i.invariant
