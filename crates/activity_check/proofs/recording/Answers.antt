use Rattle.activity_check.proofs.recording.Goals as goal

pub returns : goal.returns
returns c = rw (c.is_some.ensures, c.recording.ensures)
