use Prim.Native.Nat.{◌*◌}
use mathlib.Core.Path.{sym}
use native.Mathlib.Omega.{arith}
use Rattle.cells.specs.Cell.{zeros}
use Rattle.ground.proofs.Stores.{sets-out}
use Rattle.erasing.proofs.wipe.Goals as goal

pub returns-then-store-p : goal.returns-then-store-p
returns-then-store-p c = sym (sets-out c.args.store.now (c.args.p * 256) (zeros 256) (omega arith))

pub returns : goal.returns
unfolding zeros
returns c = c.put.ensures
