use Prim.Native.Nat.{◌+◌, ◌*◌}
use mathlib.Core.Path.{sym}
use native.Mathlib.Omega.{arith}
use Rattle.ground.proofs.Stores.{sets-out}
use Rattle.memory.proofs.put_entry.Goals as goal

pub returns-then-directory-i : goal.returns-then-directory-i
returns-then-directory-i c = let a = c.args in
    sym (sets-out a.directory.now (a.i * 16 + a.o) a.bytes.now (omega arith))

pub returns-then-directory-from : goal.returns-then-directory-from
returns-then-directory-from c = let a = c.args in
    sym (sets-out a.directory.now (a.i * 16 + a.o) a.bytes.now (omega arith))
