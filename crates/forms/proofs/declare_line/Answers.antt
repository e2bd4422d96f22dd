use mathlib.Core.Path.{sym, ◌∙◌}
use Rattle.forms.specs.Form.{declaring}
use Rattle.forms.proofs.Letters.{declaring-other}
use Rattle.forms.proofs.declare_line.Goals as goal

pub returns-in-Some : goal.returns-in-Some
unfolding declaring
returns-in-Some c = let e = sym c.stored_item.ensures ∙ c.in-Some.is in rw e c.declare.ensures

pub returns-in-None : goal.returns-in-None
unfolding declaring
returns-in-None c = let e = sym c.stored_item.ensures ∙ c.in-None.is in rw e

pub returns-then-first-ne84 : goal.returns-then-first-ne84
returns-then-first-ne84 c = declaring-other _ _ _ c.byte-first.ensures c.if-first-ne86.true c.if-first-ne67.true c.if-first-ne84.true
