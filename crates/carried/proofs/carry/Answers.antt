use Rattle.carried.specs.Carried.{carried}
use Rattle.carried.proofs.carry.Goals as goal

pub returns : goal.returns
returns c = λ i. carried (c.declare-declared.ensures i) (c.origin_after-origin.ensures i)
