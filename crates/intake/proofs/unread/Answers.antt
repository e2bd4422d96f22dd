use Rattle.intake.proofs.unread.Goals as goal

pub returns : goal.returns
returns c = rw (c.back.ensures, c.front.ensures)
