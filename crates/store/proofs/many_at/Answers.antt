use Rattle.store.proofs.Chains.{many-none, many-some}
use Rattle.store.proofs.many_at.Goals as goal

pub returns-then-kind_at-eq0 : goal.returns-then-kind_at-eq0
returns-then-kind_at-eq0 c = many-none _ _ c.kind_at.ensures.0 c.if-kind_at-eq0.true

pub returns : goal.returns
returns c = many-some _ _ c.kind_at.ensures.0 _ _ c.if-kind_at-eq0.false c.size_at.ensures.0 c.needed_for.ensures
