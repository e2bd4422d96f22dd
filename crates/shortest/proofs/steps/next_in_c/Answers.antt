use mathlib.Core.Path.{sym, ◌∙◌}
use Rattle.shortest.proofs.Placing.{next-pair, next-to-b}
use Rattle.shortest.proofs.steps.next_in_c.Goals as goal

pub returns-then-two : goal.returns-then-two
returns-then-two c = rw (c.pair_of.ensures, c.byte-b.ensures) (next-pair _ _ c.requires (sym (rw c.byte-b.ensures at c.two.ensures) ∙ c.if-two.true))

pub returns : goal.returns
returns c = next-to-b _ _ c.requires (sym (rw c.byte-b.ensures at c.two.ensures) ∙ c.if-two.false)
