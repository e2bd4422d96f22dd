use mathlib.Core.Path.{refl, ap, ◌∙◌}
use mathlib.Core.Bool.{false}
use native.Mathlib.Omega.{arith}
use Rattle.figures.specs.declared.Corner.{Corner}
use Rattle.text.specs.Text.{down, glyphs, text_drawn}
use Rattle.lined.specs.Lined.{line_of, line_wide}
use Rattle.lined.proofs.Within.{inset-drawn}
use Rattle.lined.proofs.Showing.{line-short, line-placed}
use Rattle.lined.proofs.drawing.draw_line.Goals as goal

pub returns : goal.returns
returns c = let a = c.args in
    let font = a.font.now in
    let text = line_of a.kind a.bytes.now in
    inset-drawn a.corner.size.width a.corner.size.length a.corner.r a.m (line_wide font text) (down font 1) a.corner.x a.corner.y _ _ (glyphs font 1 1 text) a.page.now _ (omega arith)
    refl refl
    (c.draw.ensures ∙ ap (λ (k : Corner). text_drawn k.size.width k.size.length k.x k.y k.r 1 1 false font text a.page.now) c.within.ensures
    ∙ line-placed a.corner.size.width a.corner.size.length _ _ a.corner.r font text a.page.now (line-short a.kind a.bytes.now c.requires))
