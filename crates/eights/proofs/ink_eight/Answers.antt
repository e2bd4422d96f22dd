use native.Mathlib.Omega.{arith}
use Rattle.eights.proofs.EightDots.{eights-none}
use Rattle.eights.proofs.ink_eight.Goals as goal

pub returns-then-page-y : goal.returns-then-page-y
returns-then-page-y c = let a = c.args in
    eights-none a.ink _ _ _ a.m a.page.now (λ j. omega (arith, c.type_inv.page j)) (λ x y i k h. omega arith)
