use Rattle.declarations.specs.Declarations.{formatted}
use Rattle.declarations.proofs.Declared.formatted.Goals as goal

pub returns : goal.returns
unfolding formatted
returns c = rw c.with.ensures
