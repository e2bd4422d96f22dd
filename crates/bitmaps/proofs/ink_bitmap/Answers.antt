use mathlib.Core.Path.{◌≡◌, refl, ap, ◌∙◌}
use Prim.Native.Nat.{ℕ, ◌+◌}
use native.Mathlib.Omega.{arith}
use Rattle.dots.specs.Dots.{drawn}
use Rattle.figures.specs.Figures.{bit_row, bitmap, row_of, scaled, shifted, on_label}
use Rattle.figures.proofs.Placed.{then-placed, none-placed}
use Rattle.bitmaps.proofs.Bitmaps.{bitmap-next, bitmap-start}
use Rattle.bitmaps.proofs.ink_bitmap.Goals as goal

pub loop-g-init : goal.loop-g-init
loop-g-init c = let a = c.args in let pic = bitmap a.bitmap.bits.now a.bitmap.stride in (
  none-placed a.ink a.spot.corner.size.width a.spot.corner.size.length a.spot.corner.r a.spot.wide a.spot.high a.spot.corner.x a.spot.corner.y (shifted a.d (scaled a.bitmap.wide 0 a.bitmap.hm a.bitmap.vm pic)) a.page.now
      (λ j. omega (arith, c.type_inv.page j)) (λ u v i j. bitmap-start pic a.d a.bitmap.wide a.bitmap.hm a.bitmap.vm u v),
  refl,
)

pub returns : goal.returns
returns c = let a = c.args in
    c.loop-g.invariant.0
    ∙ ap (λ (n : ℕ). drawn a.ink (on_label a.spot (shifted a.d (scaled a.bitmap.wide n a.bitmap.hm a.bitmap.vm (bitmap a.bitmap.bits.now a.bitmap.stride)))) a.page.now)
    (let z : c.loop-g.g ≡ a.bitmap.high = omega arith in z)

pub loop-g-preserved : goal.loop-g-preserved
loop-g-preserved c = let a = c.args in
    let pic = bitmap a.bitmap.bits.now a.bitmap.stride in (
      then-placed a.ink a.spot.corner.size.width a.spot.corner.size.length a.spot.corner.r a.spot.wide a.spot.high a.spot.corner.x a.spot.corner.y (shifted a.d (scaled a.bitmap.wide c.loop-g.g a.bitmap.hm a.bitmap.vm pic))
          (shifted a.d (row_of (bit_row a.bitmap.bits.now c.edge.result) a.bitmap.wide a.bitmap.hm c.edge-in-loop-g.result c.edge-in-loop-g-2.result))
          (shifted a.d (scaled a.bitmap.wide (c.loop-g.g + 1) a.bitmap.hm a.bitmap.vm pic))
          a.page.now c.loop-g.page c.ink_row.new.page c.loop-g.invariant.0 c.ink_row.ensures
          (λ u v i j. bitmap-next a.bitmap.bits.now a.bitmap.stride a.d a.bitmap.wide c.loop-g.g a.bitmap.hm a.bitmap.vm c.edge.result
          c.edge-in-loop-g.result c.edge-in-loop-g-2.result 18446744073709551615 u v (omega (arith, c.well_formed)) (omega arith)
          c.edge.ensures c.edge-in-loop-g.ensures c.edge-in-loop-g-2.ensures),
      omega (arith, c.ink_row.auto.page),
    )
