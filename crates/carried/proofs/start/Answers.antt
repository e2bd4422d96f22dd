use Rattle.carried.proofs.start.Goals as goal

pub returns : goal.returns
returns c = rw c.none.ensures
