use Prim.Native.Nat.{◌-◌}
use native.Mathlib.Omega.{arith}
use Rattle.verdicts.proofs.Walks.{walking_start, walking-out, walking-end, walking_on, walking-done}
use Rattle.verdicts.proofs.chains.walk_length.Goals as goal

pub loop-k-init : goal.loop-k-init
loop-k-init c = walking_start _ _

pub returns-then-links-p : goal.returns-then-links-p
returns-then-links-p c = walking-out _ _ _ _ c.loop-k.invariant c.loop-k-test.true c.if-links-p.true

pub overflow_cast-p : goal.overflow_cast-p
overflow_cast-p c = omega (arith, c.type_inv.links c.loop-k.p)

pub returns-then-p : goal.returns-then-p
returns-then-p c = let o = c in walking-end _ _ _ _ o.loop-k.invariant o.loop-k-test.true o.if-links-p.false c.if-p.true

pub loop-k-preserved : goal.loop-k-preserved
loop-k-preserved c = let o = c in walking_on _ _ _ _ o.loop-k.invariant o.loop-k-test.true o.if-links-p.false c.if-p.false

pub returns : goal.returns
returns c = walking-done _ _ _ _ c.loop-k.invariant c.loop-k-test.false
