use native.Mathlib.Omega.{arith}
use mathlib.Core.Path.{sym}
use Prim.Native.Nat.{◌+◌, ◌-◌}
use lib.ListN.{replicate}
use Rattle.ground.proofs.Stores.{sets-out}
use Rattle.mending.proofs.zero_behind.Goals as goal

pub returns-then-bytes-from : goal.returns-then-bytes-from
returns-then-bytes-from c = let a = c.args in sym (sets-out a.bytes.now (a.from + a.n) (replicate (a.many - a.n) 0) (omega arith))

pub returns : goal.returns
returns c = rw (← c.less.ensures) c.fill.ensures
