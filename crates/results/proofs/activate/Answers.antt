use Rattle.results.proofs.activate.Goals as goal

pub returns : goal.returns
returns c = (rw (c.taken.ensures, c.activated.ensures), c.unset_all.ensures)
