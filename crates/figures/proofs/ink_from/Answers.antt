use Rattle.figures.proofs.Placed.{capped-box}
use native.Mathlib.Omega.{arith}
use Rattle.figures.proofs.ink_from.Goals as goal

pub returns : goal.returns
returns c = capped-box _ _ _ _ _ _ _ _ _ _ _ _ _ (omega arith) c.ink_box.ensures c.capped_sum.ensures c.capped_sum-2.ensures c.capped_sum-3.ensures c.capped_sum-4.ensures
