use mathlib.Core.Path.{◌≡◌, ap}
use Prim.Native.Nat.{ℕ, ◌%◌}
use native.Mathlib.Omega.{arith}
use Rattle.lined.specs.Insets.{brought}
use Rattle.lined.proofs.insets.bring.Goals as goal

pub returns-in-0 : goal.returns-in-0
returns-in-0 c = let a = c.args in ap (λ (k : ℕ). brought k a.a a.b a.c a.d) (let e : 0 ≡ a.r % 4 = omega arith in e)

pub returns-in-1 : goal.returns-in-1
returns-in-1 c = let a = c.args in ap (λ (k : ℕ). brought k a.a a.b a.c a.d) (let e : 1 ≡ a.r % 4 = omega arith in e)

pub returns-in-2 : goal.returns-in-2
returns-in-2 c = let a = c.args in ap (λ (k : ℕ). brought k a.a a.b a.c a.d) (let e : 2 ≡ a.r % 4 = omega arith in e)

pub returns-in_default : goal.returns-in_default
returns-in_default c = let a = c.args in ap (λ (k : ℕ). brought k a.a a.b a.c a.d) (let e : 3 ≡ a.r % 4 = omega arith in e)
