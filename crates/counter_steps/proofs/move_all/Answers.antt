use Prim.Native.Nat.{◌-◌}
use mathlib.Core.Path.{refl, sym, ◌∙◌}
use native.Mathlib.Omega.{arith}
use Rattle.counter_steps.specs.Steps.{moved_at, moved_all}
use Rattle.counter_steps.proofs.Moves.{renewed-next, renewed-none}
use Rattle.counter_steps.proofs.move_all.Goals as goal

pub loop-i-init : goal.loop-i-init
loop-i-init c = (refl, refl)

pub loop-i-preserved : goal.loop-i-preserved
loop-i-preserved c = let a = c.args in let l = c.loop-i in let t = c.loop-i-test.true in (
  rw c.moved_at-moved.ensures (sym (renewed-next (λ k. (moved_at a.d a.c k).set) l.i l.set t) ∙ l.invariant.0),
  rw c.moved_at-moved.ensures (sym (renewed-next (λ k. (moved_at a.d a.c k).value) l.i l.value t) ∙ l.invariant.1),
)

pub returns : goal.returns
unfolding moved_all
returns c = let a = c.args in let l = c.loop-i in let t = c.loop-i-test.false in
    let p = sym (renewed-none (λ k. (moved_at a.d a.c k).set) l.i l.set t) ∙ l.invariant.0 in
    let q = sym (renewed-none (λ k. (moved_at a.d a.c k).value) l.i l.value t) ∙ l.invariant.1 in rw (p, q)
