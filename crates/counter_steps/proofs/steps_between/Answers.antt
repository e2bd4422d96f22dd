use mathlib.Core.Path.{refl}
use native.Mathlib.Omega.{arith}
use Rattle.counter_steps.proofs.steps_between.Goals as goal

pub returns-then-n-gt0 : goal.returns-then-n-gt0
returns-then-n-gt0 c = refl

pub returns-else-n-gt0 : goal.returns-else-n-gt0
returns-else-n-gt0 c = let z = c.if-n-gt0.false in omega (arith, z)
