use Rattle.image.proofs.format_at.Goals as goal

pub returns : goal.returns
returns c = rw (c.byte-5.ensures, c.byte-4.ensures, c.byte-3.ensures, c.byte-2.ensures, c.byte.ensures)
