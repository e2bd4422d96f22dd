use Rattle.slots.proofs.is_first.Goals as goal

pub returns : goal.returns
returns c = rw c.two_at.ensures
