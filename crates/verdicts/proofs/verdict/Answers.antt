use Rattle.verdicts.proofs.Judging.{verdict-empty, verdict-name, verdict-chain, verdict-size, verdict-shared, verdict-content, verdict-kept}
use Rattle.verdicts.proofs.verdict.Goals as goal

pub returns-then-kind_at-eq0 : goal.returns-then-kind_at-eq0
returns-then-kind_at-eq0 c = let k = c in let a = k.args in
    verdict-empty a.store.now a.links.now a.directory.now a.verdicts.now a.fills.now a.i _ k.kind_at.ensures.0 c.if-kind_at-eq0.true

pub returns-then-wrong_name : goal.returns-then-wrong_name
returns-then-wrong_name c = let n = c in let k = n in let a = k.args in
    verdict-name a.store.now a.links.now a.directory.now a.verdicts.now a.fills.now a.i _ k.kind_at.ensures.0 n.if-kind_at-eq0.false
    _ n.wrong_name.ensures c.if-wrong_name.true

pub returns-then-n-eq0 : goal.returns-then-n-eq0
returns-then-n-eq0 c = let w = c in let n = w in let k = n in
    let a = k.args in
    verdict-chain a.store.now a.links.now a.directory.now a.verdicts.now a.fills.now a.i _ k.kind_at.ensures.0 n.if-kind_at-eq0.false
    _ n.wrong_name.ensures w.if-wrong_name.false _ _ w.first_at-first.ensures.0 w.walk_length-n.ensures c.if-n-eq0.true

pub returns-then-wrong_size : goal.returns-then-wrong_size
returns-then-wrong_size c = let s = c in let w = s in let n = w in let k = n in
    let a = k.args in
    verdict-size a.store.now a.links.now a.directory.now a.verdicts.now a.fills.now a.i _ k.kind_at.ensures.0 n.if-kind_at-eq0.false
    _ n.wrong_name.ensures w.if-wrong_name.false _ _ w.first_at-first.ensures.0 w.walk_length-n.ensures s.if-n-eq0.false
    _ s.wrong_size.ensures c.if-wrong_size.true

pub returns-then-shares : goal.returns-then-shares
returns-then-shares c = let h = c in let s = h in let w = s in let n = w in let k = n in
    let a = k.args in
    verdict-shared a.store.now a.links.now a.directory.now a.verdicts.now a.fills.now a.i _ k.kind_at.ensures.0 n.if-kind_at-eq0.false
    _ n.wrong_name.ensures w.if-wrong_name.false _ _ w.first_at-first.ensures.0 w.walk_length-n.ensures s.if-n-eq0.false
    _ s.wrong_size.ensures h.if-wrong_size.false _ h.shares.ensures c.if-shares.true

pub returns-then-wrong_content : goal.returns-then-wrong_content
returns-then-wrong_content c = let d = c in let h = d in let s = h in let w = s in let n = w in
    let k = n in let a = k.args in
    verdict-content a.store.now a.links.now a.directory.now a.verdicts.now a.fills.now a.i _ k.kind_at.ensures.0 n.if-kind_at-eq0.false
    _ n.wrong_name.ensures w.if-wrong_name.false _ _ w.first_at-first.ensures.0 w.walk_length-n.ensures s.if-n-eq0.false
    _ s.wrong_size.ensures h.if-wrong_size.false _ h.shares.ensures d.if-shares.false _ d.wrong_content.ensures c.if-wrong_content.true

pub returns : goal.returns
returns c = let d = c in let h = d in let s = h in let w = s in let n = w in
    let k = n in let a = k.args in
    verdict-kept a.store.now a.links.now a.directory.now a.verdicts.now a.fills.now a.i _ k.kind_at.ensures.0 n.if-kind_at-eq0.false
    _ n.wrong_name.ensures w.if-wrong_name.false _ _ w.first_at-first.ensures.0 w.walk_length-n.ensures s.if-n-eq0.false
    _ s.wrong_size.ensures h.if-wrong_size.false _ h.shares.ensures d.if-shares.false _ d.wrong_content.ensures c.if-wrong_content.false
