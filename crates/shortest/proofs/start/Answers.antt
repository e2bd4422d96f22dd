use Rattle.shortest.specs.declared.Set.TheVariants.{B, C}
use native.Mathlib.Omega.{arith}
use Rattle.shortest.proofs.Placing.{started-c, started-b, placed}
use Rattle.kinds.proofs.FitData.{fit-most}
use Rattle.shortest.proofs.start.Goals as goal

pub plan-m-requires : goal.plan-m-requires
plan-m-requires c = let l = fit-most _ _ c.requires in (l, l)

pub behind_start-requires : goal.behind_start-requires
behind_start-requires c = let l = fit-most _ _ c.requires in (l, omega (arith, l, c.plan-m.auto), c.plan-m.ensures.1)

pub returns-then-m : goal.returns-then-m
returns-then-m c = placed _ C _ _ _ _ _ (started-c _ _ c.plan-m.ensures.0 c.if-m.true) c.put_byte.ensures c.behind_start.ensures

pub behind_start-requires-2 : goal.behind_start-requires-2
behind_start-requires-2 c = let l = fit-most _ _ c.requires in (l, omega (arith, l), c.plan-m.ensures.1)

pub returns : goal.returns
returns c = placed _ B _ _ _ _ _ (started-b _ _ c.plan-m.ensures.0 c.if-m.false) c.put_byte-2.ensures c.behind_start-2.ensures
