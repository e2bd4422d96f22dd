use mathlib.Core.Path.{sym}
use native.Mathlib.Omega.{arith}
use lib.ListN.{get_or-eq_default}
use Rattle.lasting.proofs.links.link.Goals as goal

pub returns-else-i-links : goal.returns-else-i-links
returns-else-i-links c = sym (get_or-eq_default c.args.links.now 0 (omega arith))
