use Prim.Native.Nat.{◌≤◌}
use native.Mathlib.Omega.{arith}
use native.Mathlib.Nat.{mul-le-mul}
use Rattle.counter_steps.proofs.far.Goals as goal

pub overflow_mul-result : goal.overflow_mul-result
overflow_mul-result c = let a = c.args in rw c.wide32.ensures (omega (arith, mul-le-mul (let h : a.steps ≤ 65535 = omega arith in h) (let h : a.step ≤ 4294967295 = omega arith in h)))

pub returns : goal.returns
returns c = rw c.wide32.ensures
