use Rattle.store_sound.specs.Sound.{firsts, counts}
use Rattle.chain_check.proofs.Claims.{entry-none, entry-some}
use Rattle.chain_check.proofs.claim_entry.Goals as goal

pub returns-then-k-eq0-clause-walked : goal.returns-then-k-eq0-clause-walked
returns-then-k-eq0-clause-walked c = let a = c.args in
    (entry-none a.links.now a.marks.now (firsts a.directory.now a.i) (counts a.directory.now a.i) _ c.many_at-k.ensures c.if-k-eq0.true).0

pub returns-clause-walked : goal.returns-clause-walked
returns-clause-walked c = let a = c.args in
    (entry-some a.links.now a.marks.now _ (firsts a.directory.now a.i) (counts a.directory.now a.i) _ _ _
    c.first_at-f.ensures.0 c.many_at-k.ensures c.if-k-eq0.false c.claim.ensures.walked c.claim.ensures.marked).0
