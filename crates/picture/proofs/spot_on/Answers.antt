use native.Mathlib.Omega.{arith}
use native.Mathlib.Nat.{mul-le-mul}
use Prim.Native.Nat.{◌≤◌}
use Rattle.picture.specs.Steps.{spot_of}
use Rattle.picture.proofs.spot_on.Goals as goal

pub overflow_mul-last : goal.overflow_mul-last
overflow_mul-last c = let h : c.saturating_sub.result ≤ 65536 = omega arith in
    let l : c.line_bytes-line.result ≤ 65536 = omega (arith, c.line_bytes-line.ensures.1) in
    record { fits = omega (arith, mul-le-mul h l) }

pub returns : goal.returns
unfolding spot_of
returns c = rw (c.saturating_sub.ensures, c.line_bytes-line.ensures.0, c.min-bottom.ensures, c.min.ensures, c.height_of.ensures.0, c.min-right.ensures, c.width_of.ensures.0)
