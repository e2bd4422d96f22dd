use Rattle.grammar.specs.Forms.{in_order}
use Rattle.grammar.proofs.makers.format.Goals as goal

pub returns : goal.returns
unfolding in_order
returns c = rw c.unpack.ensures
