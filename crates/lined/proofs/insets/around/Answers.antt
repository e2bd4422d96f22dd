use mathlib.Core.Path.{ap, ◌∙◌}
use Prim.Native.Nat.{ℕ, ◌-◌}
use Rattle.lined.proofs.insets.around.Goals as goal

pub returns : goal.returns
returns c = let a = c.args in
    let e = c.left_of-left.ensures in
    let f = c.less.ensures ∙ ap (λ (n : ℕ). a.spare - n) e in
    (λ i. record { left = e i; top = a.top; right = f i; bottom = a.bottom })
