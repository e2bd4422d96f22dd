use mathlib.Core.Path.{ap, ◌∙◌}
use Prim.Native.Nat.{ℕ, ◌-◌}
use native.Mathlib.Omega.{arith}
use Rattle.free_number.proofs.Taking.{taken_is}
use Rattle.free_number.proofs.after_stored.Goals as goal

pub returns : goal.returns
returns c = let s = c.args.session in
    taken_is s _ _ _ _ c.sixteen_bits.ensures c.roomed.ensures (omega (arith, c.struct_known-1.given))
    (c.less.ensures ∙ ap (λ (n : ℕ). s.free - n) c.needed_for.ensures)
