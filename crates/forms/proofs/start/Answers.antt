use Rattle.forms.proofs.start.Goals as goal

pub returns : goal.returns
returns c = rw (c.none.ensures, c.reader.ensures)
