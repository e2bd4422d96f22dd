use mathlib.Core.Path.{◌≡◌, ◌∙◌, refl}
use Prim.Native.Nat.{◌+◌, ◌-◌, ◌<◌}
use native.Mathlib.Omega.{arith}
use lib.ListN.{length-set}
use Rattle.chain_check.proofs.Claiming.{claim-on, set_all-on}
use Rattle.chain_check.proofs.claim.Goals as goal

pub loop-init : goal.loop-init
loop-init c = let e : c.args.n - 0 ≡ c.args.n = omega arith in rw e (refl, refl, refl)

pub overflow_cast-p : goal.overflow_cast-p
overflow_cast-p c = omega (arith, c.type_inv.links c.loop.p)

pub loop-preserved : goal.loop-preserved
loop-preserved c =
    let h : 0 < c.args.n - c.loop.counter = omega (arith, c.loop-test.true) in
    let e : c.args.n - (c.loop.counter + 1) ≡ c.args.n - c.loop.counter - 1 = omega arith in
    rw e (
      simp length-set c.loop.invariant.0,
      c.loop.invariant.1 ∙ claim-on _ _ _ _ h c.if-links-p.false c.if-marks-p-ne0.false,
      c.loop.invariant.2 ∙ set_all-on _ _ 1 _ _ h,
    )
