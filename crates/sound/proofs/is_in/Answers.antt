use Rattle.kinds.specs.Bytes.{between}
use Rattle.sound.proofs.is_in.Goals as goal

pub returns : goal.returns
unfolding between
returns c = cc
