use mathlib.Core.Path.{sym, ◌∙◌}
use Rattle.dots.specs.Dots.{drawn, cut}
use Rattle.figures.specs.Figures.{bit_row, row_of, shifted, turned_by}
use Rattle.bitmaps.proofs.ink_row.Goals as goal

pub returns-then-spot-eq0 : goal.returns-then-spot-eq0
returns-then-spot-eq0 c = let a = c.args in
    c.ink_bytes.ensures
    ∙ (λ i. drawn a.ink (cut a.spot.corner.size.width a.spot.corner.size.length (turned_by (sym c.if-spot-eq0.true i) a.spot.wide a.spot.high a.spot.corner.x a.spot.corner.y
    (shifted a.row.d (row_of (bit_row a.row.bits.now a.row.at) a.row.wide (sym c.if-row-eq1.true i) a.row.v0 a.row.v1)))) a.page.now)
