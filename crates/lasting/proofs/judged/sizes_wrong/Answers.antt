use Rattle.lasting.proofs.judged.sizes_wrong.Goals as goal

pub returns : goal.returns
returns c = rw (c.either-3.ensures, c.either-2.ensures, c.either.ensures, c.two_at-rows.ensures, c.two_at-portions.ensures, c.two_at-entries.ensures)
