use Rattle.stamps.specs.Always.{good_marked}
use Rattle.stamps.proofs.good_marked.Goals as goal

pub returns : goal.returns
unfolding good_marked
returns c = cc
