use native.Mathlib.Nat.{mul-le-mul}
use native.Mathlib.Omega.{arith}
use Rattle.slanted_lines.proofs.discs.line_root.Goals as goal

pub overflow_mul-times : goal.overflow_mul-times
overflow_mul-times c = omega (arith, mul-le-mul c.times.ensures.1 c.squared.ensures.1)

pub root-requires : goal.root-requires
root-requires c = omega (arith, mul-le-mul c.times.ensures.1 c.squared.ensures.1)

pub returns : goal.returns
returns c = let q = c in
    let k = rw (q.times.ensures.0, q.squared.ensures.0) at c.root.ensures in
    record { is-root = k.0; fits = k.1 }
