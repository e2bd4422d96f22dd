use native.Mathlib.Omega.{arith}
use Rattle.finding.specs.Bytes.{eight}
use Rattle.std.proofs.Common.{rules}
use Rattle.finding.proofs.eight.Goals as goal

pub returns : goal.returns
unfolding eight
returns c = (search rules, λ k. omega (arith, c.type_inv.s k))
