use Rattle.text.proofs.drawable_ok.Goals as goal

pub returns : goal.returns
returns c = rw (c.both-2.ensures, c.both.ensures)
