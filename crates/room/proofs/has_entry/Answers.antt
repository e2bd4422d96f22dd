use Rattle.room.proofs.has_entry.Goals as goal

pub returns : goal.returns
returns c = rw c.lowest_entry.ensures
