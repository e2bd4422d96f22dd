use mathlib.Core.Path.{refl, ◌∙◌}
use Rattle.text.specs.Text.{text_drawn}
use Rattle.pieces.specs.Elements.{elements}
use Rattle.pieces.specs.Data.{assembled, values_in}
use Rattle.item_drawing.proofs.Showing.{data-shown}
use Rattle.item_drawing.proofs.draw_text.Goals as goal

pub returns : goal.returns
returns c = let a = c.args in c.draw.ensures ∙ (λ i. text_drawn a.s.size.width a.s.size.length (c.far.ensures i) (c.far-2.ensures i) a.t.r a.t.h a.t.v a.t.reverse a.s.font.now ((c.front.ensures ∙ data-shown c.assemble-n.result (assembled a.line.now a.d (values_in a.s.values.now a.s.counters a.s.clock) (elements a.line.now a.t.at)) _ _ refl c.assemble-n.ensures) i) a.page.now)
