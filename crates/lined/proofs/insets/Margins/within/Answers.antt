use Prim.Native.Nat.{◌+◌}
use mathlib.Core.Path.{ap, ◌∙◌}
use Prim.Native.Nat.{ℕ}
use Rattle.ground.specs.Numbers.{capped}
use Rattle.lined.proofs.insets.Margins.within.Goals as goal

pub returns : goal.returns
returns c = let a = c.args.at in
    let x = c.capped_sum.ensures ∙ ap (λ (n : ℕ). capped (a.x + n)) c.bring-left.ensures in
    let y = c.capped_sum-2.ensures ∙ ap (λ (n : ℕ). capped (a.y + n)) c.bring-top.ensures in
    (λ i. record { size = a.size; r = a.r; x = x i; y = y i })
