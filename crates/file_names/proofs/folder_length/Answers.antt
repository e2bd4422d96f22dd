use mathlib.Core.Path.{sym, ◌∙◌}
use Rattle.file_names.proofs.Slashes.{slash-next, slash-end}
use Rattle.file_names.proofs.folder_length.Goals as goal

pub loop-i-preserved : goal.loop-i-preserved
loop-i-preserved c = rw c.slash-best.ensures (sym (slash-next _ c.loop-i.i c.loop-i.best c.loop-i-test.true) ∙ c.loop-i.invariant)

pub returns : goal.returns
returns c = sym (slash-end _ c.loop-i.i c.loop-i.best c.loop-i-test.false) ∙ c.loop-i.invariant
