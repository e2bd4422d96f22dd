use Rattle.std.proofs.Common.{arith}
use Rattle.std.proofs.lemmas.Grind.{common_steps}
use Rattle.fields.specs.KindsBytes.{between}
use Rattle.data_field.proofs.counts.Goals as goal

pub returns : goal.returns
unfolding between
returns c = grind (arith, common_steps)
