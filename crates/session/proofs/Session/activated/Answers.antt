use Rattle.session.proofs.Session.activated.Goals as goal

pub returns : goal.returns
returns c = rw c.unset-s.ensures
