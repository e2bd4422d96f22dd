use native.Mathlib.Omega.{arith}
use lib.Count.{ones-le}
use Rattle.pages.proofs.WholePages.{ones-black}
use Rattle.pages.proofs.black_in.Goals as goal

pub overflow_cast-result : goal.overflow_cast-result
overflow_cast-result c = omega (arith, ones-le 8 c.args.b (omega arith))

pub returns : goal.returns
returns c = ones-black c.args.b (omega arith)
