use native.Mathlib.Omega.{arith}
use Rattle.slanted_lines.specs.Slanted.{squared}
use Rattle.slanted_lines.proofs.nearness.squared.Goals as goal

pub returns : goal.returns
unfolding squared
returns c = (cc, omega arith)
