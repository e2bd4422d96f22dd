use Rattle.counter_steps.proofs.inside_at.Goals as goal

pub returns : goal.returns
returns c = rw (c.is_inside.ensures, c.value_at.ensures, c.minus_at.ensures, c.width_at.ensures, c.far-way.ensures, c.step_at.ensures)
