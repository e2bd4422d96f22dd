use Rattle.std.proofs.Common.{arith}
use Rattle.std.proofs.lemmas.Grind.{common_steps}
use Rattle.kinds.specs.Bytes.{between}
use Rattle.row_limits.proofs.is_within.Goals as goal

pub returns : goal.returns
unfolding between
returns c = grind (arith, common_steps)
