use Rattle.counter_steps.proofs.counts_at.Goals as goal

pub returns : goal.returns
returns c = rw (c.both.ensures, c.is_set.ensures, c.counter_declared.ensures)
