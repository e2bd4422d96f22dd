use mathlib.Core.Path.{sym}
use lib.Seq.{set_out}
use Rattle.lasting.proofs.links.set_link.Goals as goal

pub returns-else-i-links : goal.returns-else-i-links
returns-else-i-links c = sym (set_out _ _ _ c.if-i-links.false)
