use Rattle.low_first.specs.Low.{bytes_of}
use Rattle.image.proofs.head.Goals as goal

pub returns : goal.returns
unfolding bytes_of
returns c = cc
