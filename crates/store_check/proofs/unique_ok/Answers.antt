use Rattle.store_check.proofs.Deciding.{unique-empty, unique-is}
use Rattle.store_check.proofs.unique_ok.Goals as goal

pub returns-then-k-eq0 : goal.returns-then-k-eq0
returns-then-k-eq0 c = unique-empty _ _ _ c.kind_at-k.ensures.0 c.if-k-eq0.true

pub returns : goal.returns
returns c = unique-is _ _ _ c.kind_at-k.ensures.0 _ _ _ c.if-k-eq0.false c.name_at.ensures c.find.ensures c.is_here.ensures
