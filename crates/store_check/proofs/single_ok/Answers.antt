use Rattle.store_check.proofs.Deciding.{single-other, single-is}
use Rattle.store_check.proofs.single_ok.Goals as goal

pub returns-then-kind_at-ne3 : goal.returns-then-kind_at-ne3
returns-then-kind_at-ne3 c = single-other _ _ _ c.kind_at.ensures.0 c.if-kind_at-ne3.true

pub returns : goal.returns
returns c = single-is _ _ _ c.kind_at.ensures.0 _ _ c.if-kind_at-ne3.false c.recording.ensures c.is_here.ensures
