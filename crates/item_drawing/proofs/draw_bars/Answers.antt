use mathlib.Core.Path.{refl, ◌∙◌}
use Rattle.lined.specs.Lined.{bars_with}
use Rattle.pieces.specs.Elements.{elements}
use Rattle.pieces.specs.Data.{assembled, values_in}
use Rattle.item_drawing.proofs.Showing.{data-shown}
use Rattle.item_drawing.proofs.draw_bars.Goals as goal

pub returns : goal.returns
returns c = let a = c.args in
    let n = c.assemble-n in
    c.draw.ensures
    ∙ (λ i.
    bars_with a.s.size.width a.s.size.length (c.far.ensures i) (c.far-2.ensures i)
    a.b.r a.b.kind a.b.e a.b.f a.b.g a.b.under a.s.font.now
    ((c.front.ensures
    ∙ data-shown n.result (assembled a.line.now a.d (values_in a.s.values.now a.s.counters a.s.clock) (elements a.line.now a.b.at)) _ _ refl n.ensures) i)
    a.page.now)
