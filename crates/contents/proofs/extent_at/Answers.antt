use native.Mathlib.Omega.{arith}
use Rattle.contents.specs.Content.{extent}
use Rattle.contents.proofs.extent_at.Goals as goal

pub returns-then-s-links : goal.returns-then-s-links
unfolding extent
returns-then-s-links c = omega arith

pub returns : goal.returns
unfolding extent
returns c = omega arith
