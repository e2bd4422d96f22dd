use native.Mathlib.Omega.{arith}
use mathlib.Core.Path.{sym, ◌∙◌}
use Rattle.picture.proofs.Drawing.{none-pictured, illegal-draws-nothing, drawn-picture, picture-fits}
use Rattle.picture.proofs.draw.Goals as goal

pub returns-then-x-ge-DOTS_A_ROW : goal.returns-then-x-ge-DOTS_A_ROW
returns-then-x-ge-DOTS_A_ROW c = none-pictured _ _ _ _ _ _ (λ j. omega (arith, c.type_inv.page j)) (λ a b u v h. let w = h.there in omega arith)

pub returns-then-rows-y : goal.returns-then-rows-y
returns-then-rows-y c = none-pictured _ _ _ _ _ _ (λ j. omega (arith, c.type_inv.page j)) (λ a b u v h. let w = h.there in omega arith)

pub returns-then-not-is_legal : goal.returns-then-not-is_legal
returns-then-not-is_legal c = illegal-draws-nothing _ _ _ _ _ _ (λ j. omega (arith, c.type_inv.page j))
    (sym c.is_legal.ensures ∙ c.if-not-is_legal.true)

pub ink_runs-requires : goal.ink_runs-requires
ink_runs-requires c = let o = c in let l = o in let a = l.args in
    picture-fits a.bytes.now a.width a.length a.x a.y a.page.now (sym l.is_legal.ensures ∙ o.if-not-is_legal.false)
    o.spot_on-spot.result o.spot_on-spot.ensures (omega arith) (omega arith)

pub returns : goal.returns
returns c = let e = c in let o = e in let l = o in let a = l.args in
    drawn-picture a.bytes.now a.width a.length a.x a.y a.page.now (sym l.is_legal.ensures ∙ o.if-not-is_legal.false)
    o.spot_on-spot.result o.spot_on-spot.ensures _ e.ink_runs.ensures
