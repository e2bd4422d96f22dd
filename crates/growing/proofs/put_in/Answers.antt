use mathlib.Core.Path.{sym}
use native.Mathlib.Omega.{arith}
use lib.Seq.{set_out}
use Rattle.growing.proofs.put_in.Goals as goal

pub returns-then-store-p : goal.returns-then-store-p
returns-then-store-p c = sym (set_out c.args.store.now _ _ (omega arith))

pub returns-then-store-from : goal.returns-then-store-from
returns-then-store-from c = sym (set_out c.args.store.now _ _ (omega arith))
