use Rattle.std.proofs.Common.{arith}
use Rattle.std.proofs.lemmas.Grind.{common_steps}
use Rattle.classes.specs.KindsBytes.{between}
use Rattle.parts.specs.Names.{capital}
use Rattle.parts.proofs.folded.Goals as goal

pub returns : goal.returns
unfolding capital between
returns c = grind (arith, common_steps)
