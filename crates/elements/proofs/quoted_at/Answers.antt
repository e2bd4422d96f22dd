use native.Mathlib.Omega.{arith}
use mathlib.Core.Path.{◌∙◌, sym}
use Rattle.fields.proofs.Laws.{text-ends}
use Rattle.elements.proofs.quoted_at.Goals as goal

pub overflow_add-result : goal.overflow_add-result
overflow_add-result c = let h = text-ends c.args.line.now c.args.at _ _ (sym c.text.ensures ∙ c.in_ok-n.was) in omega arith
