use Rattle.low_first.specs.Low.{bytes_of}
use Rattle.file_parts.proofs.put_two.Goals as goal

pub returns : goal.returns
unfolding bytes_of
returns c = c.put.ensures
