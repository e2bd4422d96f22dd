use Rattle.item_drawing.proofs.Showing.{far-is}
use Rattle.item_drawing.proofs.far.Goals as goal

pub returns : goal.returns
returns c = far-is _ _ _ _ _ c.least.ensures c.least-2.ensures c.least-3.ensures
