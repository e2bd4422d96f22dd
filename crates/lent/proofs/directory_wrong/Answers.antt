use Rattle.lent.specs.Lent.{directory_wrong}
use Rattle.lent.proofs.directory_wrong.Goals as goal

pub returns : goal.returns
unfolding directory_wrong
returns c = rw (c.either-2.ensures, c.either.ensures)
