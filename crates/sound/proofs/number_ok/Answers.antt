use Rattle.sound.proofs.number_ok.Goals as goal

pub returns : goal.returns
returns c = rw (c.wide.ensures, c.free_count.ensures)
