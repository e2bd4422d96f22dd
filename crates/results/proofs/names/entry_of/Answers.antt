use Rattle.results.proofs.names.entry_of.Goals as goal

pub returns : goal.returns
returns c = rw (c.find.ensures, c.packed-title.ensures)
