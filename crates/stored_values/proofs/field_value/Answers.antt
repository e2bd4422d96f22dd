use Rattle.stored_values.specs.Stored.{value_in}
use Rattle.stored_values.proofs.field_value.Goals as goal

pub returns : goal.returns
unfolding value_in
returns c = rw (← c.byte.ensures, ← c.wide.ensures, ← c.back.ensures) c.front.ensures
