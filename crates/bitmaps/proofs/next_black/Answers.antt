use Prim.Native.Nat.{◌/◌, ◌^◌}
use native.Mathlib.Omega.{arith}
use lib.Bits.{bit_and}
use lib.Count.{leading_le}
use Rattle.bitmaps.proofs.next_black.Goals as goal

pub overflow_cast-result-2 : goal.overflow_cast-result-2
overflow_cast-result-2 c = omega (arith, leading_le 8 (bit_and c.args.b (127 / 2 ^ c.args.k)))
