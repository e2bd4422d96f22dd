use Rattle.counter_steps.proofs.lasts_at.Goals as goal

pub returns : goal.returns
returns c = rw (c.either.ensures, c.counts_at.ensures, c.inside_at-in_range.ensures, c.steps_between.ensures)
