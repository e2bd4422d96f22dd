use Rattle.contents.proofs.reader.Goals as goal

pub returns : goal.returns
returns c = rw (c.extent_at-left.ensures, c.first_at-p.ensures.0)
