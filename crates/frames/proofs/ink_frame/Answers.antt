use mathlib.Core.Path.{◌∙◌}
use Rattle.dots.specs.declared.Ink.TheVariants.{Black}
use Rattle.dots.specs.Dots.{drawn, cut}
use Rattle.frames.specs.Frame.{hollow}
use Rattle.frames.proofs.ink_frame.Goals as goal

pub returns : goal.returns
returns c = let d = c in
    let g = d in
    let a = g.args in
    d.ink_sides.ensures
    ∙ (λ i. drawn Black (cut a.width a.length (hollow a.c (g.min-x0.ensures i) (g.min-y0.ensures i)
    (g.max-x1.ensures i) (g.max-y1.ensures i))) a.page.now)
