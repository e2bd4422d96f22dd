use Prim.Native.Nat.{◌-◌}
use mathlib.Core.Path.{refl, sym, ◌∙◌}
use native.Mathlib.Omega.{arith}
use Rattle.counter_steps.specs.Steps.{lasts_at, lasts}
use Rattle.declarations.proofs.Every.{every_more, every-stop, every-end}
use Rattle.counter_steps.proofs.lasts.Goals as goal

pub loop-k-init : goal.loop-k-init
loop-k-init c = refl

pub loop-k-preserved : goal.loop-k-preserved
loop-k-preserved c = let a = c.args in let l = c.loop-k in sym (every_more (lasts_at a.d a.c a.n) l.k (omega arith) (sym c.lasts_at.ensures ∙ c.if-not-lasts_at.false)) ∙ l.invariant

pub returns-then-not-lasts_at : goal.returns-then-not-lasts_at
unfolding lasts
returns-then-not-lasts_at c = let a = c.args in let l = c.loop-k in sym (every-stop (lasts_at a.d a.c a.n) l.k (omega arith) (sym c.lasts_at.ensures ∙ c.if-not-lasts_at.true)) ∙ l.invariant

pub returns : goal.returns
unfolding lasts
returns c = let a = c.args in let l = c.loop-k in sym (every-end (lasts_at a.d a.c a.n) l.k (omega arith)) ∙ l.invariant
