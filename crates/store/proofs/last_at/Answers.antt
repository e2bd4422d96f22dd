use mathlib.Core.Path.{◌≡◌, ap, ◌∙◌}
use Prim.Native.Nat.{ℕ, ◌+◌, ◌-◌, ◌≤◌, ◌<◌, min}
use native.Mathlib.Omega.{arith}
use lib.ListN.{length}
use Rattle.store.specs.Chain.{needed, walk}
use Rattle.store.specs.Entry.{entry, first, last_of}
use Rattle.store.proofs.Chains.{walking_start, walking-step, walking-done}
use Rattle.store.proofs.last_at.Goals as goal

pub loop-init : goal.loop-init
loop-init c = walking_start _ _ _ _ _ c.first_at-p.ensures.0 (omega arith)

pub loop-preserved : goal.loop-preserved
loop-preserved c =
    let h : 1 < c.least-many.result + 1 - c.loop.counter = omega (arith, c.loop-test.true) in
    let e : c.least-many.result + 1 - (c.loop.counter + 1) ≡ c.least-many.result + 1 - c.loop.counter - 1 = omega arith in
    rw e (walking-step _ _ _ _ _ _ h c.link_at-p.ensures.0 c.loop.invariant)

pub returns : goal.returns
unfolding last_of
returns c =
    let h : c.least-many.result + 1 - c.loop.counter ≤ 1 = omega (arith, c.loop-test.false) in
    walking-done _ _ _ _ _ h c.loop.invariant
    ∙ ap (λ (n : ℕ). walk c.args.links.now (first (entry c.args.directory.now c.args.i)) (n - 1))
    (c.least-many.ensures ∙ ap (λ (n : ℕ). min n (length c.args.links.now)) (c.needed_for.ensures ∙ ap needed c.size_at.ensures.0))
