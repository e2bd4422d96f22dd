use Rattle.stored_values.specs.Stored.{variable_in}
use Rattle.stored_values.proofs.variable_at.Goals as goal

pub returns : goal.returns
unfolding variable_in
returns c = rw (← c.field_at.ensures) c.field_value.ensures
