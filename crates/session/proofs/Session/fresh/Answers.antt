use Rattle.session.proofs.Session.fresh.Goals as goal

pub returns : goal.returns
returns c = rw (c.examples.ensures, c.fresh.ensures, c.unset-counters.ensures)
