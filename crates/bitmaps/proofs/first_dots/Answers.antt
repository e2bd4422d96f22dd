use Prim.Native.Nat.{◌-◌, ◌/◌, ◌^◌}
use native.Mathlib.Omega.{arith}
use lib.Bits.{and_le_l}
use lib.Pow.{shr_le}
use Rattle.bitmaps.proofs.first_dots.Goals as goal

pub overflow_sub-result : goal.overflow_sub-result
overflow_sub-result c = omega (arith, shr_le 255 c.args.n)

pub overflow_cast-result-3 : goal.overflow_cast-result-3
overflow_cast-result-3 c = omega (arith, and_le_l c.args.b (255 - 255 / 2 ^ c.args.n))
