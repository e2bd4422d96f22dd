use mathlib.Core.Path.{refl, ap, ◌∙◌}
use native.Mathlib.Omega.{arith}
use Rattle.code128.specs.Widths.{sum}
use Rattle.figures.specs.declared.Corner.{Corner}
use Rattle.bars.specs.Drawing.{widths, bars, bars_drawn}
use Rattle.lined.proofs.Within.{inset-drawn}
use Rattle.lined.proofs.Showing.{bars-placed}
use Rattle.lined.proofs.drawing.draw_bars.Goals as goal

pub returns : goal.returns
returns c = let a = c.args in
    let ws = widths a.b.kind a.b.e a.b.f a.bytes.now in
    inset-drawn a.corner.size.width a.corner.size.length a.corner.r a.m (sum ws) a.b.g a.corner.x a.corner.y _ _ (bars ws) a.page.now _ (omega arith)
    refl refl
    (c.draw.ensures ∙ ap (λ (k : Corner). bars_drawn k.size.width k.size.length k.x k.y k.r a.b.kind a.b.e a.b.f a.b.g a.bytes.now a.page.now) c.within.ensures
    ∙ bars-placed a.corner.size.width a.corner.size.length _ _ a.corner.r a.b.kind a.b.e a.b.f a.b.g a.bytes.now a.page.now c.requires.0 c.requires.1)
