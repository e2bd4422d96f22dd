use Rattle.starting.proofs.Starting.{finish-no, finish-yes}
use Rattle.starting.proofs.finish.Goals as goal

pub returns-then-kind_at-ne3-clause-directory : goal.returns-then-kind_at-ne3-clause-directory
returns-then-kind_at-ne3-clause-directory c = (finish-no _ _ _ c.kind_at.ensures.0 c.if-kind_at-ne3.true).1

pub returns-clause-directory : goal.returns-clause-directory
returns-clause-directory c = (finish-yes _ _ _ c.kind_at.ensures.0 _ c.if-kind_at-ne3.false c.put_entry.ensures).1
