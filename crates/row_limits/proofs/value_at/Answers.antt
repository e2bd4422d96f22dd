use mathlib.Core.Path.{sym}
use native.Mathlib.Omega.{arith}
use lib.ListN.{get_or-eq_default}
use Rattle.row_limits.proofs.value_at.Goals as goal

pub returns-else-i-vs : goal.returns-else-i-vs
returns-else-i-vs c = sym (get_or-eq_default c.args.vs.now 0 (omega arith))
