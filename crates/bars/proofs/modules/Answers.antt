use mathlib.Core.Path.{ap, ◌∙◌}
use Prim.Native.Nat.{◌*◌, ◌≤◌}
use native.Mathlib.Nat.{mul-le-mul}
use native.Mathlib.Omega.{arith}
use Rattle.bars.proofs.modules.Goals as goal

small : (c : goal.After-wide) → c.wide-modules.result * c.wide.result ≤ 65025
small c = let a : c.wide-modules.result ≤ 255 = omega arith in
    let b : c.wide.result ≤ 255 = omega arith in
    mul-le-mul {n₂ = 255} {m₂ = 255} a b

pub overflow_mul-result : goal.overflow_mul-result
overflow_mul-result c = record { fits = omega (arith, small c) }

pub returns : goal.returns
returns c = (ap (λ n. n * c.wide.result) c.wide-modules.ensures ∙ ap (λ n. c.args.w * n) c.wide.ensures, small c)
