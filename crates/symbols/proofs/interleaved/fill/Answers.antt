use native.Mathlib.Omega.{arith}
use Rattle.symbols.proofs.Fill25.{filled-25}
use Rattle.symbols.proofs.interleaved.fill.Goals as goal

pub returns : goal.returns
returns c = (filled-25 _ _ _ _ _ _ _ c.requires.1 c.put-start.ensures c.body.ensures c.put.ensures, omega arith)
