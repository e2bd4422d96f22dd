use mathlib.Core.Path.{ap, ◌∙◌}
use Prim.Native.Nat.{ℕ, ◌+◌}
use Rattle.ground.specs.Numbers.{capped}
use Rattle.free_number.proofs.Taking.{freed-is}
use Rattle.free_number.proofs.after_erased.Goals as goal

pub returns : goal.returns
returns c = let s = c.args.session in
    freed-is s _ _ _ _ c.sixteen_bits.ensures c.roomed.ensures
    (c.capped_sum.ensures ∙ ap (λ (n : ℕ). capped (s.free + n)) c.many_at.ensures)
