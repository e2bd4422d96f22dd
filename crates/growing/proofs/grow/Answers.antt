use Rattle.growing.proofs.Growth.{grown-is}
use Rattle.growing.proofs.grow.Goals as goal

pub returns : goal.returns
returns c = grown-is _ _ _ _ _ _ _ _ _ _ c.size_at-s.ensures.0 c.last_at-last.ensures c.fill.ensures.0 c.fill.ensures.1 c.put_size.ensures
