use Rattle.lent.specs.Lent.{links_wrong}
use Rattle.lent.proofs.links_wrong.Goals as goal

pub returns : goal.returns
unfolding links_wrong
returns c = c.either.ensures
