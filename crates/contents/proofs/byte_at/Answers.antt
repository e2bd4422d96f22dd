use mathlib.Core.Path.{sym}
use native.Mathlib.Omega.{arith}
use lib.ListN.{get_or-eq_default}
use Rattle.contents.proofs.byte_at.Goals as goal

pub returns-then-store-p : goal.returns-then-store-p
returns-then-store-p c = sym (get_or-eq_default c.args.store.now 0 (omega arith))

pub returns-then-store-from : goal.returns-then-store-from
returns-then-store-from c = sym (get_or-eq_default c.args.store.now 0 (omega arith))
