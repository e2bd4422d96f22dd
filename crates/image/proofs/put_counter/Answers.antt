use Rattle.low_first.specs.Low.{bytes_of}
use Rattle.image.proofs.put_counter.Goals as goal

pub returns : goal.returns
unfolding bytes_of
returns c = rw c.put.ensures
