use mathlib.Core.Path.{◌≡◌, ap, ◌∙◌}
use Prim.Native.Nat.{ℕ, ◌+◌, ◌*◌, min}
use native.Mathlib.Omega.{arith}
use Rattle.bitmaps.proofs.Bitmaps.{edge_none, edge-over, edge-under}
use Rattle.bitmaps.proofs.far_edge.Goals as goal

pub returns-then-m-eq0 : goal.returns-then-m-eq0
returns-then-m-eq0 c = let a = c.args in
    edge_none 18446744073709551615 a.d a.g (omega arith)
    ∙ ap (λ (n : ℕ). min 18446744073709551615 (a.d + a.g * n)) (let z : 0 ≡ a.m = omega arith in z)

pub returns-then-room-m : goal.returns-then-room-m
returns-then-room-m c = let a = c.args in edge-over 18446744073709551615 a.d a.g a.m (omega arith) (omega arith) c.if-room-m.true

pub overflow_mul-result : goal.overflow_mul-result
overflow_mul-result c = let a = c.args in omega (arith, edge-under 18446744073709551615 a.d a.g a.m (omega arith) c.if-room-m.false)

pub overflow_add-result : goal.overflow_add-result
overflow_add-result c = let a = c.args in omega (arith, edge-under 18446744073709551615 a.d a.g a.m (omega arith) c.if-room-m.false)

pub returns : goal.returns
returns c = let a = c.args in omega (arith, edge-under 18446744073709551615 a.d a.g a.m (omega arith) c.if-room-m.false)
