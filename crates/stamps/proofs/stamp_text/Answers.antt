use Rattle.stamps.proofs.Shown.{stamp-laid}
use Rattle.stamps.proofs.stamp_text.Goals as goal

pub returns : goal.returns
returns c = let a = c.args in rw (← stamp-laid a.stamp a.clock a.format, ← c.none.ensures, ← c.add_field-first.ensures, ← c.add_marked-second.ensures) c.add_marked.ensures
