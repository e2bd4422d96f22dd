use mathlib.Core.Path.{ap}
use mathlib.Core.Bool.{Bool, ◌&&◌}
use native.Mathlib.Omega.{arith}
use Prim.Native.Nat.{◌+◌, ◌*◌}
use Rattle.dots.specs.Dots.{box}
use Rattle.ground.specs.Numbers.{capped}
use Rattle.bitmaps.proofs.Bitmaps.{on-run}
use Rattle.figures.proofs.Placed.{as-placed, none-placed}
use Rattle.bitmaps.proofs.ink_run.Goals as goal

pub returns-then-not-on : goal.returns-then-not-on
returns-then-not-on c = let a = c.args in
    none-placed a.ink a.spot.corner.size.width a.spot.corner.size.length a.spot.corner.r a.spot.wide a.spot.high a.spot.corner.x a.spot.corner.y
    (λ u v. a.on && box (capped (a.row.d + a.g * a.row.m)) a.row.v0 (capped (a.row.d + a.e * a.row.m)) a.row.v1 u v) a.page.now
    (λ j. omega (arith, c.type_inv.page j))
    (λ u v i j. ap (λ (o : Bool). o && box (capped (a.row.d + a.g * a.row.m)) a.row.v0 (capped (a.row.d + a.e * a.row.m)) a.row.v1 u v) (c.if-not-on.true))

pub returns : goal.returns
returns c = let a = c.args in
    as-placed a.ink a.spot.corner.size.width a.spot.corner.size.length a.spot.corner.r a.spot.wide a.spot.high a.spot.corner.x a.spot.corner.y (box c.edge.result a.row.v0 c.edge-2.result a.row.v1)
    (λ u v. a.on && box (capped (a.row.d + a.g * a.row.m)) a.row.v0 (capped (a.row.d + a.e * a.row.m)) a.row.v1 u v) a.page.now c.ink_part.new.page c.ink_part.ensures
    (λ u v i j. on-run a.on c.edge.result c.edge-2.result _ _ a.row.v0 a.row.v1 u v
    (c.if-not-on.false) c.edge.ensures c.edge-2.ensures)
