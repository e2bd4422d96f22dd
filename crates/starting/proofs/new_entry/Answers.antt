use Rattle.starting.specs.Start.{new_entry}
use Rattle.starting.proofs.new_entry.Goals as goal

pub returns : goal.returns
unfolding new_entry
returns c = rw c.name_end-end.ensures
