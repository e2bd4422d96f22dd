use native.Mathlib.Omega.{arith}
use Rattle.counters.proofs.Tens.{power_small, power-done}
use Rattle.counters.proofs.ten.Goals as goal

pub overflow_mul-power : goal.overflow_mul-power
overflow_mul-power c = let l = c.loop in omega (arith, power_small l.power l.counter l.invariant (omega arith))

pub returns : goal.returns
returns c = let l = c.loop in power-done l.power l.counter _ l.invariant (omega arith)
