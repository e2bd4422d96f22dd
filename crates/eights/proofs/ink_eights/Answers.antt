use native.Mathlib.Omega.{arith}
use Rattle.eights.proofs.EightDots.{eights-none, then-row, as-eights}
use Rattle.std.proofs.Common.{rules}
use Rattle.eights.proofs.ink_eights.Goals as goal

pub loop-y-init : goal.loop-y-init
loop-y-init c = let a = c.args in
    (search rules, eights-none a.ink _ _ _ a.m a.page.now (λ j. omega (arith, c.type_inv.page j)) (λ x y i k h. omega arith), search rules)

pub loop-y-preserved : goal.loop-y-preserved
loop-y-preserved c = let a = c.args in (
  search rules,
  then-row a.ink a.x a.y0 c.loop-y.y a.m a.page.now c.loop-y.page c.ink_pair.new.page c.loop-y.auto.y c.loop-y.invariant.1 c.ink_pair.ensures,
  omega (arith, c.ink_pair.auto.page),
)

pub returns : goal.returns
returns c = let a = c.args in
    as-eights a.ink a.x a.y0 c.loop-y.y a.y1 a.m a.page.now c.loop-y.page (λ b i j k. omega arith) (λ b i j k. omega arith) c.loop-y.invariant.1
