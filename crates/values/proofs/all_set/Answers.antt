use Prim.Native.Nat.{◌-◌}
use mathlib.Core.Path.{sym, ◌∙◌, refl}
use native.Mathlib.Omega.{arith}
use Rattle.values.specs.Sound.{set_at, all_set}
use Rattle.declarations.proofs.Every.{every_more, every-stop, every-end}
use Rattle.values.proofs.all_set.Goals as goal

pub loop-k-init : goal.loop-k-init
loop-k-init c = refl

pub loop-k-preserved : goal.loop-k-preserved
loop-k-preserved c = let a = c.args in let l = c.loop-k in sym (every_more (set_at a.d a.values.now a.c) l.k (omega arith) (sym c.set_at.ensures ∙ c.if-not-set_at.false)) ∙ l.invariant

pub returns-then-not-set_at : goal.returns-then-not-set_at
unfolding all_set
returns-then-not-set_at c = let a = c.args in let l = c.loop-k in sym (every-stop (set_at a.d a.values.now a.c) l.k (omega arith) (sym c.set_at.ensures ∙ c.if-not-set_at.true)) ∙ l.invariant

pub returns : goal.returns
unfolding all_set
returns c = let a = c.args in let l = c.loop-k in sym (every-end (set_at a.d a.values.now a.c) l.k (omega arith)) ∙ l.invariant
