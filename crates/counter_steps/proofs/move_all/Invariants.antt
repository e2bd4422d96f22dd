use Prim.Native.Nat.{◌-◌}
use mathlib.Core.Path.{◌≡◌}
use Rattle.counter_steps.specs.Steps.{moved_at, renewed}
use Rattle.counter_steps.proofs.move_all.Given as goal

abbrev pub invariant-loop-i : goal.invariant-loop-i
invariant-loop-i l = (renewed (λ k. (moved_at l.d l.c k).set) (10 - l.i) l.i l.set ≡ renewed (λ k. (moved_at l.d l.c k).set) 10 0 l.initial.set) × (renewed (λ k. (moved_at l.d l.c k).value) (10 - l.i) l.i l.value ≡ renewed (λ k. (moved_at l.d l.c k).value) 10 0 l.initial.value)
