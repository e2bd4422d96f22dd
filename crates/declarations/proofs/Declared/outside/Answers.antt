use Rattle.declarations.specs.Declarations.{nothing}
use Rattle.declarations.proofs.Declared.outside.Goals as goal

pub returns : goal.returns
unfolding nothing
returns c = rw c.none.ensures
