use mathlib.Core.Path.{◌≡◌}
use Prim.Native.Nat.{◌+◌, ◌-◌, ◌≤◌, ◌<◌}
use native.Mathlib.Omega.{arith}
use Rattle.verdicts.proofs.Walks.{filling-start, filling_step, filling-done}
use Rattle.verdicts.proofs.chains.fill_chain.Goals as goal

pub loop-init : goal.loop-init
loop-init c = let e : c.args.n - 0 ≡ c.args.n = omega arith in rw e (filling-start _ _ _ _ _)

pub overflow_add-least : goal.overflow_add-least
overflow_add-least c = omega (arith, c.least.ensures)

pub overflow_cast-least : goal.overflow_cast-least
overflow_cast-least c = omega (arith, c.least.ensures)

pub loop-preserved : goal.loop-preserved
loop-preserved c =
    let h : 0 < c.args.n - c.loop.counter = omega (arith, c.loop-test.true) in
    let e : c.args.n - (c.loop.counter + 1) ≡ c.args.n - c.loop.counter - 1 = omega arith in
    rw e (filling_step _ _ _ _ _ _ _ _ _ _ _ _ _ h c.least.ensures c.put_link.ensures c.link_at-p.ensures.0 c.less-left.ensures c.loop.invariant)

pub shape_of-fills : goal.shape_of-fills
shape_of-fills c = c.loop.invariant.long

pub returns : goal.returns
returns c = let h : c.args.n - c.loop.counter ≤ 0 = omega (arith, c.loop-test.false) in filling-done _ _ _ _ _ _ _ _ _ h c.loop.invariant
