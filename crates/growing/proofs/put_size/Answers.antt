use Rattle.growing.specs.Grow.{with_size}
use Rattle.growing.proofs.put_size.Goals as goal

pub returns : goal.returns
unfolding with_size
returns c = c.put_entry.ensures
