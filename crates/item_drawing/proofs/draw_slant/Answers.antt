use mathlib.Core.Path.{◌∙◌}
use Rattle.dots.specs.Dots.{drawn, cut}
use Rattle.slanted_lines.specs.Slanted.{slanted}
use Rattle.item_drawing.proofs.draw_slant.Goals as goal

pub returns : goal.returns
returns c = let a = c.args in c.ink_line.ensures ∙ (λ i. drawn a.l.ink (cut a.size.width a.size.length (slanted (c.far-a.ensures i) (c.far-b.ensures i) a.l.c (c.far-d.ensures i) (c.far-e.ensures i))) a.page.now)
