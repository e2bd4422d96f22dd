use Rattle.file_parts.proofs.part.Goals as goal

pub returns : goal.returns
returns c = rw (c.front.ensures, c.back.ensures)
