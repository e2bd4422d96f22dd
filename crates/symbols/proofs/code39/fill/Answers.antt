use native.Mathlib.Omega.{arith}
use Rattle.symbols.proofs.Fill39.{filled-39}
use Rattle.symbols.proofs.code39.fill.Goals as goal

pub returns : goal.returns
returns c = (
  filled-39 _ _ _ _ _ _ _ _ _ _ _ c.wide.ensures.0 c.row.ensures c.put-start.ensures
      c.body.ensures c.wide-2.ensures.0 c.row-2.ensures c.put.ensures,
  omega arith,
)
