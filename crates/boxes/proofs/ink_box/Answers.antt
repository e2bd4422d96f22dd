use Rattle.boxes.proofs.Boxes.{as-cut-box, cut-box-none, then-below, box-none}
use mathlib.Core.Path.{refl}
use native.Mathlib.Omega.{arith}
use Rattle.std.proofs.Common.{rules}
use Rattle.boxes.proofs.ink_box.Goals as goal

pub returns-then-right-area : goal.returns-then-right-area
returns-then-right-area c = let a = c.args in
    cut-box-none a.ink a.size.width a.size.length a.area.x0 a.area.y0 a.area.x1 a.area.y1 a.page.now
    (λ j. omega (arith, c.type_inv.page j)) (λ x y i j h. omega arith)

pub loop-y-init : goal.loop-y-init
loop-y-init c = (search rules, box-none _ _ _ _ _ _ (λ j. omega (arith, c.type_inv.page j)) (λ x y i k h. omega arith), search rules)

pub loop-y-preserved : goal.loop-y-preserved
loop-y-preserved c = let v = c.loop-y in (
  search rules,
  then-below _ _ _ _ _ _ _ _ _ _ _ v.invariant.1 c.ink_span.ensures refl refl (omega arith) (omega arith),
  omega (arith, c.ink_span.auto.page),
)

pub returns : goal.returns
returns c = let a = c.args in
    as-cut-box a.ink a.size.width a.size.length _ _ _ _ a.area.x0 a.area.y0 a.area.x1 a.area.y1 _ _ c.loop-y.invariant.1
    (λ x y s t h. omega arith) (λ x y s t h. omega arith)
