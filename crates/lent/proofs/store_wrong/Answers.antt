use mathlib.Core.Path.{sym, ◌∙◌}
use native.Mathlib.Omega.{arith}
use Rattle.lent.specs.Lent.{store_wrong}
use Rattle.lent.proofs.Lengths.{links-few}
use Rattle.lent.proofs.store_wrong.Goals as goal

pub returns-then-links_wrong : goal.returns-then-links_wrong
unfolding store_wrong
returns-then-links_wrong c = rw (sym c.links_wrong.ensures ∙ c.if-links_wrong.true)

pub overflow_mul-result : goal.overflow_mul-result
overflow_mul-result c = record { fits = omega (arith, links-few _ (sym c.links_wrong.ensures ∙ c.if-links_wrong.false)) }

pub returns : goal.returns
unfolding store_wrong
returns c = rw (sym c.links_wrong.ensures ∙ c.if-links_wrong.false)
