use Rattle.slanted_lines.specs.Slanted.{gap}
use native.Mathlib.Omega.{arith}
use Rattle.slanted_lines.proofs.nearness.gap.Goals as goal

pub returns : goal.returns
unfolding gap
returns c = omega (arith, c.abs_diff.ensures)
