use Rattle.opening.proofs.refused.Goals as goal

pub returns : goal.returns
returns c = rw c.none-session.ensures
