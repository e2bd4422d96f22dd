use mathlib.Core.Path.{◌≡◌}
use Prim.Native.Nat.{◌+◌, ◌-◌, ◌≤◌, ◌<◌}
use native.Mathlib.Omega.{arith}
use Rattle.verdicts.proofs.Walks.{meeting-start, meeting-here, meeting-on, meeting-done}
use Rattle.verdicts.proofs.chains.shares.Goals as goal

pub loop-init : goal.loop-init
loop-init c = let e : c.args.n - 0 ≡ c.args.n = omega arith in rw e (meeting-start _ _ _ _)

pub returns-then-link_at-gt0 : goal.returns-then-link_at-gt0
returns-then-link_at-gt0 c =
    let h : 0 < c.args.n - c.loop.counter = omega (arith, c.loop-test.true) in
    meeting-here _ _ _ _ _ _ _ h c.link_at.ensures.0 c.if-link_at-gt0.true c.loop.invariant

pub loop-preserved : goal.loop-preserved
loop-preserved c =
    let h : 0 < c.args.n - c.loop.counter = omega (arith, c.loop-test.true) in
    let e : c.args.n - (c.loop.counter + 1) ≡ c.args.n - c.loop.counter - 1 = omega arith in
    rw e (meeting-on _ _ _ _ _ _ _ _ h c.link_at.ensures.0 c.if-link_at-gt0.false c.link_at-p.ensures.0 c.loop.invariant)

pub returns : goal.returns
returns c = let h : c.args.n - c.loop.counter ≤ 0 = omega (arith, c.loop-test.false) in meeting-done _ _ _ _ _ _ h c.loop.invariant
