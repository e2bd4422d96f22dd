use mathlib.Core.Path.{◌≡◌, refl, ap, ◌∙◌}
use Prim.Native.Nat.{ℕ, ◌+◌, ◌*◌, ◌<◌, min}
use native.Mathlib.Omega.{arith}
use Rattle.dots.specs.Dots.{drawn, cut}
use Rattle.figures.specs.Figures.{bit_row, row_of, shifted, placed}
use Rattle.figures.proofs.Placed.{then-placed, none-placed}
use Rattle.bitmaps.proofs.ByteRows.{eight_of, bytes-start, bytes_next}
use Rattle.bitmaps.proofs.ink_bytes.Goals as goal

pub loop-k-init : goal.loop-k-init
loop-k-init c = let a = c.args in let row = bit_row a.row.bits.now a.row.at in (
  none-placed a.ink a.spot.corner.size.width a.spot.corner.size.length 0 a.spot.wide a.spot.high a.spot.corner.x a.spot.corner.y (shifted a.row.d (row_of row (min (0 * 8) a.row.wide) 1 a.row.v0 a.row.v1)) a.page.now
      (λ j. omega (arith, c.type_inv.page j)) (λ u v i j. bytes-start row a.row.d 0 a.row.wide a.row.v0 a.row.v1 u v refl),
  refl,
)

pub loop-k-preserved : goal.loop-k-preserved
loop-k-preserved c = let a = c.args in let row = bit_row a.row.bits.now a.row.at in (
  then-placed a.ink a.spot.corner.size.width a.spot.corner.size.length 0 a.spot.wide a.spot.high a.spot.corner.x a.spot.corner.y (shifted a.row.d (row_of row (min (c.loop-k.k * 8) a.row.wide) 1 a.row.v0 a.row.v1))
      (eight_of a.row.d (c.loop-k.k * 8) a.row.wide a.row.v0 a.row.v1 c.byte-b.result)
      (shifted a.row.d (row_of row (min ((c.loop-k.k + 1) * 8) a.row.wide) 1 a.row.v0 a.row.v1))
      a.page.now c.loop-k.page c.ink_eight.new.page c.loop-k.invariant.0 c.ink_eight.ensures
      (λ u v i j. bytes_next a.row.bits.now a.row.at c.loop-k.k a.row.wide a.row.v0 a.row.v1 c.byte-b.result c.byte-b.ensures
      (let z : c.loop-k.k * 8 < a.row.wide = omega arith in z) a.row.d u v),
  omega (arith, c.ink_eight.auto.page),
)

pub returns : goal.returns
returns c = let a = c.args in
    c.loop-k.invariant.0
    ∙ ap (λ (n : ℕ). drawn a.ink (cut a.spot.corner.size.width a.spot.corner.size.length (placed 0 a.spot.wide a.spot.high a.spot.corner.x a.spot.corner.y
    (shifted a.row.d (row_of (bit_row a.row.bits.now a.row.at) n 1 a.row.v0 a.row.v1)))) a.page.now)
    (let z : min (c.loop-k.k * 8) a.row.wide ≡ a.row.wide = omega arith in z)
