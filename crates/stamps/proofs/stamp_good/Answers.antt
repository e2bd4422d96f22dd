use Rattle.stamps.specs.Always.{stamp_good}
use Rattle.stamps.proofs.stamp_good.Goals as goal

pub returns : goal.returns
unfolding stamp_good
returns c = cc
