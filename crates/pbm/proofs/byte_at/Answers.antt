use Rattle.pbm.proofs.byte_at.Goals as goal

pub returns : goal.returns
returns c = rw (c.cut.ensures, c.byte.ensures, c.less.ensures)
