use Rattle.lasting.proofs.judged.version_wrong.Goals as goal

pub returns : goal.returns
returns c = rw (c.both.ensures, c.is_first.ensures, c.two_at-version.ensures)
