use native.Mathlib.Omega.{arith}
use Rattle.store.specs.Entry.{size}
use Rattle.store.proofs.size_at.Goals as goal

pub returns : goal.returns
unfolding size
returns c = omega arith
