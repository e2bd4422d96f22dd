use native.Mathlib.Omega.{arith}
use Rattle.symbols.proofs.Fill128.{filled-128}
use Rattle.symbols.proofs.sets_b_and_c.close.Goals as goal

pub returns : goal.returns
returns c = (
  filled-128 _ _ _ _ _ _ _ _ _ _ _ _ _ c.body.ensures
      c.check.ensures c.row.ensures
      c.put-checked.ensures c.row-2.ensures
      c.put-stop.ensures c.last_bar.ensures c.put.ensures,
  omega arith,
)
