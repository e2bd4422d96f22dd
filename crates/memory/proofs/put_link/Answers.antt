use mathlib.Core.Path.{sym}
use lib.Seq.{set_out}
use Rattle.memory.proofs.put_link.Goals as goal

pub returns-else-p-links : goal.returns-else-p-links
returns-else-p-links c = sym (set_out _ _ _ c.if-p-links.false)
