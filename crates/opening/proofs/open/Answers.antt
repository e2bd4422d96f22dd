use mathlib.Core.Path.{sym, ◌∙◌}
use native.Mathlib.Omega.{arith}
use Rattle.lent.proofs.Lengths.{page-bound, links-bound}
use Rattle.opening.proofs.Cleared.{opened-wrong, opened-uneven, opened-good}
use Rattle.opening.proofs.open.Goals as goal

pub returns-then-lengths_wrong : goal.returns-then-lengths_wrong
returns-then-lengths_wrong c = rw c.refused.ensures (sym (opened-wrong _ _ (sym c.lengths_wrong.ensures ∙ c.if-lengths_wrong.true)))

pub returns-then-page-background : goal.returns-then-page-background
returns-then-page-background c = rw c.refused-then-page-background.ensures (sym (opened-uneven _ _ (sym c.lengths_wrong.ensures ∙ c.if-lengths_wrong.false) c.if-page-background.true))

pub overflow_cast-rows : goal.overflow_cast-rows
overflow_cast-rows c = let h = page-bound _ _ _ _ _ (sym c.lengths_wrong.ensures ∙ c.if-lengths_wrong.false) in omega (arith, h)

pub overflow_cast-portions : goal.overflow_cast-portions
overflow_cast-portions c = let h = links-bound _ _ _ _ _ (sym c.lengths_wrong.ensures ∙ c.if-lengths_wrong.false) in omega (arith, h)

pub shape_of-page : goal.shape_of-page
shape_of-page c = c.page-1.given

pub returns : goal.returns
returns c = rw (c.fresh-session.ensures, c.whiten-2.ensures, c.whiten.ensures)
    (sym
    (opened-good _ _ _ _ _ _ (sym c.lengths_wrong.ensures ∙ c.if-lengths_wrong.false)
    c.if-page-background.false c.clear.ensures
    c.unset_all.ensures))
