use Rattle.recording.proofs.has_named.Goals as goal

pub returns : goal.returns
returns c = rw (c.is_some.ensures, c.find.ensures, c.packed.ensures)
