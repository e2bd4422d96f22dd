use Rattle.session.proofs.Session.moved.Goals as goal

pub returns : goal.returns
returns c = rw (c.counting.ensures, c.move_all.ensures)
