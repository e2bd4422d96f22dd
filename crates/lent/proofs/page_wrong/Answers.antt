use Rattle.lent.specs.Lent.{page_wrong}
use Rattle.lent.proofs.page_wrong.Goals as goal

pub returns : goal.returns
unfolding page_wrong
returns c = rw (c.either-2.ensures, c.either.ensures)
