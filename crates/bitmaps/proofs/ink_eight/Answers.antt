use mathlib.Core.Path.{ap, ◌∙◌}
use Prim.Native.Nat.{ℕ, ◌+◌, min}
use native.Mathlib.Omega.{arith}
use Rattle.figures.proofs.Placed.{none-placed}
use Rattle.bitmaps.proofs.ByteRows.{eight_of, white-eight, as-eight, no-more-than-8, counted}
use Rattle.bitmaps.proofs.ink_eight.Goals as goal

pub returns-then-b-eq0 : goal.returns-then-b-eq0
returns-then-b-eq0 c = let a = c.args in
    none-placed a.ink a.spot.corner.size.width a.spot.corner.size.length 0 a.spot.wide a.spot.high a.spot.corner.x a.spot.corner.y (eight_of a.row.d a.g a.row.wide a.row.v0 a.row.v1 a.b) a.page.now
    (λ j. omega (arith, c.type_inv.page j)) (λ u v i j. white-eight a.row.d a.g a.row.wide a.row.v0 a.row.v1 a.b u v c.if-b-eq0.true)

pub first_dots-m-requires : goal.first_dots-m-requires
first_dots-m-requires c = no-more-than-8 c.least.result c.least-cells.result c.least-seen.result _ c.least.ensures c.least-cells.ensures

pub returns : goal.returns
returns c = let a = c.args in
    as-eight a.ink a.spot.corner.size.width a.spot.corner.size.length a.spot.corner.x a.spot.corner.y a.spot.wide a.spot.high a.row.d a.g a.row.wide a.row.v0 a.row.v1 a.b c.capped_sum-left.result
    c.capped_sum-from.result c.least.result c.capped_sum-top.result c.capped_sum-end.result c.least-3.result c.first_dots-m.result
    a.page.now c.ink_eights.new.page (omega arith) c.capped_sum-left.ensures c.capped_sum-from.ensures
    (counted c.least.result c.least-cells.result c.least-seen.result _ _ _ c.less.result c.less-2.result
    c.least.ensures c.least-cells.ensures c.least-seen.ensures c.less.ensures c.less-2.ensures)
    c.capped_sum-top.ensures (c.capped_sum-end.ensures ∙ ap (λ (n : ℕ). min 18446744073709551615 (a.spot.corner.y + n)) c.least-2.ensures)
    c.least-3.ensures c.first_dots-m.ensures c.ink_eights.ensures
