use Rattle.reach.proofs.Answering.{middle-far, middle-near}
use Rattle.reach.proofs.middle_past.Goals as goal

pub returns-then-m-n : goal.returns-then-m-n
returns-then-m-n c = middle-far _ _ _ c.if-m-n.true

pub returns : goal.returns
returns c = middle-near _ _ _ c.if-m-n.false
