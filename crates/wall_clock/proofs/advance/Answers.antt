use mathlib.Core.Path.{◌≡◌, ◌∙◌, sym, ap, refl}
use Prim.Native.Nat.{◌-◌}
use native.Mathlib.Omega.{arith}
use Rattle.wall_clock.specs.Wall.{advanced}
use Rattle.wall_clock.proofs.Steps.{onward, onward-none, onward-step}
use Rattle.std.proofs.Common.{rules}
use Rattle.wall_clock.proofs.advance.Goals as goal

pub least-left-requires : goal.least-left-requires
least-left-requires c = search rules

-- src/lib.rt:62:5

pub loop-left-init : goal.loop-left-init
loop-left-init c = refl

-- src/lib.rt:63:13

pub least-step-requires : goal.least-step-requires
least-step-requires c = search rules

-- src/lib.rt:64:9

pub move_on-clock-requires : goal.move_on-clock-requires
move_on-clock-requires c = search rules

-- src/lib.rt:65:9

pub overflow_sub-left : goal.overflow_sub-left
overflow_sub-left c = search rules

-- src/lib.rt:62:5

pub loop-left-smaller : goal.loop-left-smaller
loop-left-smaller c = search rules

-- src/lib.rt:62:5

pub loop-left-preserved : goal.loop-left-preserved
loop-left-preserved c = let k = c.least-step.ensures in
    let h = onward-step c.loop-left.clock c.loop-left.left c.least-step.result (omega (arith, k)) (omega (arith, k)) in
    ap (λ z. onward z (c.loop-left.left - c.least-step.result)) c.move_on-clock.ensures ∙ h ∙ c.loop-left.invariant

-- src/lib.rt:57:1

pub returns : goal.returns
unfolding advanced
returns c = let z : c.loop-left.left ≡ 0 = omega (arith, c.loop-left-test.false) in
    sym (onward-none c.loop-left.clock) ∙ ap (onward c.loop-left.clock) (sym z) ∙ c.loop-left.invariant ∙ ap (onward _) c.least-left.ensures
