use mathlib.Core.Path.{◌≡◌}
use Prim.Native.Nat.{◌+◌, ◌-◌, ◌≤◌, ◌<◌}
use native.Mathlib.Omega.{arith}
use Rattle.erasing.proofs.Freeing.{freeing-start, freeing_step, freeing-done, freeing-store, freeing-links}
use Rattle.erasing.proofs.free_chain.Goals as goal

pub loop-init : goal.loop-init
loop-init c = let e : c.args.n - 0 ≡ c.args.n = omega arith in rw e (freeing-start _ _ _)

pub loop-preserved : goal.loop-preserved
loop-preserved c =
    let h : 0 < c.args.n - c.loop.counter = omega (arith, c.loop-test.true) in
    let e : c.args.n - (c.loop.counter + 1) ≡ c.args.n - c.loop.counter - 1 = omega arith in
    rw e (freeing_step _ _ _ _ _ _ _ _ _ _ h c.loop.invariant c.wipe.ensures c.link_at-next.ensures.0 c.put_link.ensures)

pub shape_of-store : goal.shape_of-store
shape_of-store c = freeing-store _ _ _ _ _ _ _ c.loop.invariant

pub shape_of-links : goal.shape_of-links
shape_of-links c = freeing-links _ _ _ _ _ _ _ c.loop.invariant

pub returns : goal.returns
returns c = let h : c.args.n - c.loop.counter ≤ 0 = omega (arith, c.loop-test.false) in freeing-done _ _ _ _ _ _ _ h c.loop.invariant
