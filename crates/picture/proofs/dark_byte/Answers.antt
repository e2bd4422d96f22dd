use native.Mathlib.Omega.{arith}
use Prim.Native.Nat.{◌-◌, ◌/◌, ◌^◌}
use lib.Bits.{and_le_l}
use lib.Pow.{shr_le}
use Rattle.picture.proofs.Bits.{dark-says}
use Rattle.picture.proofs.dark_byte.Goals as goal

pub overflow_sub-result : goal.overflow_sub-result
overflow_sub-result c = omega (arith, shr_le 255 c.args.n)

pub overflow_cast-result-2 : goal.overflow_cast-result-2
overflow_cast-result-2 c = omega (arith, and_le_l (255 - c.args.v) (255 - 255 / 2 ^ c.args.n))

pub returns : goal.returns
returns c = dark-says c.args.v c.args.n (omega arith) c.requires
