use native.Mathlib.Omega.{arith}
use Rattle.store.specs.Entry.{first}
use Rattle.store.proofs.first_at.Goals as goal

pub returns : goal.returns
unfolding first
returns c = omega arith
