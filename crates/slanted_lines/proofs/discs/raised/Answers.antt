use Prim.Native.Nat.{◌+◌, ◌-◌, ◌/◌, ◌≤◌}
use mathlib.Core.Path.{◌≡◌}
use native.Mathlib.Nat.{mul-le-mul}
use native.Mathlib.Omega.{arith}
use Rattle.slanted_lines.specs.Code.{root_bound}
use Rattle.slanted_lines.proofs.Roots.{raised-above, raised_below}
use Rattle.slanted_lines.proofs.discs.raised.Goals as goal

pub overflow_mul-middle : goal.overflow_mul-middle
overflow_mul-middle c = let k : c.args.r + c.args.step / 2 ≤ root_bound = omega arith in omega (arith, mul-le-mul k k)

pub returns-then-middle-n : goal.returns-then-middle-n
returns-then-middle-n c = let a = c.args in
    let e : a.step ≡ a.step / 2 + (a.step - a.step / 2) = omega arith in
    (raised-above a.n a.r (a.step / 2) (a.step - a.step / 2) (omega arith) (rw e at c.requires.0.high), omega arith)

pub returns : goal.returns
returns c = let a = c.args in
    (raised_below a.n a.r (a.step / 2) (a.step - a.step / 2) c.requires.0.low (omega arith) (omega arith), omega arith)
