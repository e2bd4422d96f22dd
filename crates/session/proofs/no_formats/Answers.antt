use Rattle.session.proofs.no_formats.Goals as goal

pub returns : goal.returns
returns c = rw (c.no_format-2.ensures, c.no_format.ensures)
