use mathlib.Core.Path.{◌∙◌}
use Rattle.dots.specs.declared.Ink.TheVariants.{Black}
use Rattle.dots.specs.Dots.{drawn, cut}
use Rattle.frames.specs.Frame.{frame}
use Rattle.item_drawing.proofs.draw_frame.Goals as goal

pub returns : goal.returns
returns c = let a = c.args in c.ink_frame.ensures ∙ (λ i. drawn Black (cut a.size.width a.size.length (frame (c.far-a.ensures i) (c.far-b.ensures i) a.f.c (c.far-d.ensures i) (c.far-e.ensures i))) a.page.now)
