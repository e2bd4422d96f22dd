use Rattle.verdicts.proofs.Judging.{content-unfinished, content-is}
use Rattle.verdicts.proofs.wrong_content.Goals as goal

pub returns-then-kind_at-eq3 : goal.returns-then-kind_at-eq3
returns-then-kind_at-eq3 c = let a = c.args in
    content-unfinished a.store.now a.links.now a.directory.now a.i _ c.kind_at.ensures.0 c.if-kind_at-eq3.true

pub returns : goal.returns
returns c = let a = c.args in
    content-is a.store.now a.links.now a.directory.now a.i _ c.kind_at.ensures.0 _ c.if-kind_at-eq3.false
    c.content_at.ensures
