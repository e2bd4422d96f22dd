use native.Mathlib.Omega.{arith}
use Rattle.symbols.proofs.FillEan.{filled-ean}
use Rattle.symbols.proofs.ean.fill.Goals as goal

pub returns : goal.returns
returns c = (
  filled-ean _ _ _ _ _ _ _ _ _ _ _ c.requires c.wide.ensures.0 c.row_of_sets.ensures
      c.put.ensures.1 c.put-2.ensures.1 c.half.ensures
      c.put-3.ensures.1 c.half-2.ensures c.put-4.ensures,
  omega arith,
)
