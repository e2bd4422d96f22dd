use mathlib.Core.Path.{sym, ◌∙◌}
use Rattle.forms.proofs.Letters.{has_other}
use Rattle.forms.proofs.has_line.Goals as goal

pub returns-then-byte-ne71 : goal.returns-then-byte-ne71
returns-then-byte-ne71 c = has_other _ _ _ c.byte.ensures c.if-byte-ne71.true

pub returns-in-Some : goal.returns-in-Some
returns-in-Some c = let e = sym c.stored_item.ensures ∙ c.in-Some.is in rw e c.has_picture.ensures

pub returns-in-None : goal.returns-in-None
returns-in-None c = let e = sym c.stored_item.ensures ∙ c.in-None.is in rw e
