use Rattle.store_check.proofs.Deciding.{named-empty, named_none, named-long, named-is}
use Rattle.store_check.proofs.name_ok.Goals as goal

pub returns-then-kind_at-eq0 : goal.returns-then-kind_at-eq0
returns-then-kind_at-eq0 c = named-empty _ _ _ c.kind_at.ensures.0 c.if-kind_at-eq0.true

pub returns-then-n-eq0 : goal.returns-then-n-eq0
returns-then-n-eq0 c = named_none _ _ _ c.kind_at.ensures.0 _ c.name_length_at-n.ensures.0 c.if-kind_at-eq0.false c.if-n-eq0.true

pub returns-then-n-gt8 : goal.returns-then-n-gt8
returns-then-n-gt8 c = named-long _ _ _ c.kind_at.ensures.0 _ c.name_length_at-n.ensures.0 c.if-kind_at-eq0.false c.if-n-gt8.true

pub returns : goal.returns
returns c = named-is _ _ _ c.kind_at.ensures.0 _ c.name_length_at-n.ensures.0 c.if-kind_at-eq0.false _ _ c.if-n-eq0.false c.if-n-gt8.false c.name_at.ensures c.name_bytes_ok.ensures
