use Rattle.session.proofs.Session.none.Goals as goal

pub returns : goal.returns
returns c = rw (c.no_formats.ensures, c.no_clock.ensures, c.unset-counters.ensures)
