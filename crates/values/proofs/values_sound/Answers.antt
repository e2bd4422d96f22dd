use Prim.Native.Nat.{◌-◌}
use mathlib.Core.Path.{sym, ◌∙◌, refl}
use native.Mathlib.Omega.{arith}
use Rattle.values.specs.Sound.{sound_at, values_sound}
use Rattle.declarations.proofs.Every.{every_more, every-stop, every-end}
use Rattle.values.proofs.values_sound.Goals as goal

pub loop-k-init : goal.loop-k-init
loop-k-init c = refl

pub loop-k-preserved : goal.loop-k-preserved
loop-k-preserved c = let a = c.args in let l = c.loop-k in sym (every_more (sound_at a.d a.values.now a.c) l.k (omega arith) (sym c.sound_at.ensures ∙ c.if-not-sound_at.false)) ∙ l.invariant

pub returns-then-not-sound_at : goal.returns-then-not-sound_at
unfolding values_sound
returns-then-not-sound_at c = let a = c.args in let l = c.loop-k in sym (every-stop (sound_at a.d a.values.now a.c) l.k (omega arith) (sym c.sound_at.ensures ∙ c.if-not-sound_at.true)) ∙ l.invariant

pub returns : goal.returns
unfolding values_sound
returns c = let a = c.args in let l = c.loop-k in sym (every-end (sound_at a.d a.values.now a.c) l.k (omega arith)) ∙ l.invariant
