use Rattle.slots.proofs.dated.Goals as goal

pub returns : goal.returns
returns c = rw (c.formatted.ensures, c.examples.ensures, c.clocked.ensures, c.fresh.ensures)
