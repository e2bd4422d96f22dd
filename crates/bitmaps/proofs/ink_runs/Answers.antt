use mathlib.Core.Path.{◌≡◌, refl, ap, ◌∙◌}
use mathlib.Core.Bool.{◌&&◌}
use Prim.Native.Nat.{ℕ, ◌+◌, ◌*◌}
use native.Mathlib.Omega.{arith}
use Rattle.dots.specs.Dots.{drawn, box}
use Rattle.ground.specs.Numbers.{capped}
use Rattle.figures.specs.Figures.{bit_row, row_of, shifted, on_label}
use Rattle.figures.proofs.Placed.{then-placed, none-placed}
use Rattle.bitmaps.proofs.Bitmaps.{row_next, row-start}
use Rattle.std.proofs.Common.{rules}
use Rattle.bitmaps.proofs.ink_runs.Goals as goal

pub loop-g-init : goal.loop-g-init
loop-g-init c = let a = c.args in let row = bit_row a.row.bits.now a.row.at in (
  search rules,
  none-placed a.ink a.spot.corner.size.width a.spot.corner.size.length a.spot.corner.r a.spot.wide a.spot.high a.spot.corner.x a.spot.corner.y (shifted a.row.d (row_of row 0 a.row.m a.row.v0 a.row.v1)) a.page.now
      (λ j. omega (arith, c.type_inv.page j)) (λ u v i j. row-start row a.row.d a.row.m a.row.v0 a.row.v1 u v),
  refl,
)

pub loop-g-smaller : goal.loop-g-smaller
loop-g-smaller c = omega (arith, c.run_end-e.ensures.more)

pub loop-g-preserved : goal.loop-g-preserved
loop-g-preserved c = let a = c.args in
    let row = bit_row a.row.bits.now a.row.at in
    let s0 = capped (a.row.d + c.loop-g.g * a.row.m) in
    let s1 = capped (a.row.d + c.run_end-e.result * a.row.m) in (
      c.run_end-e.ensures.inside,
      then-placed a.ink a.spot.corner.size.width a.spot.corner.size.length a.spot.corner.r a.spot.wide a.spot.high a.spot.corner.x a.spot.corner.y (shifted a.row.d (row_of row c.loop-g.g a.row.m a.row.v0 a.row.v1))
          (λ u v. c.black-on.result && box s0 a.row.v0 s1 a.row.v1 u v) (shifted a.row.d (row_of row c.run_end-e.result a.row.m a.row.v0 a.row.v1))
          a.page.now c.loop-g.page c.ink_run.new.page c.loop-g.invariant.1 c.ink_run.ensures
          (λ u v i j. row_next row c.black-on.result a.row.d c.loop-g.g c.run_end-e.result a.row.wide a.row.m a.row.v0 a.row.v1 s0 s1
          18446744073709551615 u v c.run_end-e.ensures c.black-on.ensures (omega arith) refl refl),
      omega (arith, c.ink_run.auto.page),
    )

pub returns : goal.returns
returns c = let a = c.args in
    c.loop-g.invariant.1
    ∙ ap (λ (n : ℕ). drawn a.ink (on_label a.spot (shifted a.row.d (row_of (bit_row a.row.bits.now a.row.at) n a.row.m a.row.v0 a.row.v1))) a.page.now)
    (let z : c.loop-g.g ≡ a.row.wide = omega arith in z)
