use mathlib.Core.Path.{ap, ◌∙◌}
use Prim.Native.Nat.{ℕ, ◌-◌}
use native.Mathlib.Omega.{arith}
use Rattle.free_number.proofs.Taking.{taken_is, needs-more}
use Rattle.free_number.proofs.after_grown.Goals as goal

pub returns : goal.returns
returns c = let s = c.args.session in
    taken_is s _ _ _ _ c.sixteen_bits.ensures c.roomed.ensures (omega (arith, c.struct_known-1.given))
    (c.less-2.ensures ∙ ap (λ (n : ℕ). s.free - n)
    (needs-more _ _ _ _ _ _ c.size_at-size.ensures.0 c.needed_for-before.ensures c.needed_for-after.ensures c.less.ensures))
