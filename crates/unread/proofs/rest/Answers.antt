use Rattle.unread.proofs.rest.Goals as goal

pub returns : goal.returns
returns c = rw (← c.read_by-read.ensures) c.rest.ensures
