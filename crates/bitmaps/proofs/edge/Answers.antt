use native.Mathlib.Omega.{arith}
use Rattle.bitmaps.proofs.Bitmaps.{small_product}
use Rattle.bitmaps.proofs.edge.Goals as goal

pub overflow_mul-g : goal.overflow_mul-g
overflow_mul-g c = let a = c.args in omega (arith, small_product a.g a.m c.if-g-lt4294967296.true c.if-m-lt4294967296.true)
