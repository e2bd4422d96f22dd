use mathlib.Core.Path.{◌∙◌}
use borrow.Author.Tests.{le-leb, lt-leb}
use Rattle.store_sound.specs.Sound.{firsts, counts}
use Rattle.chain_check.proofs.Claims.{claimed-all, zeros-all}
use Rattle.chain_check.proofs.chains_ok.Goals as goal

pub returns-then-links-gt-MOST_PORTIONS : goal.returns-then-links-gt-MOST_PORTIONS
returns-then-links-gt-MOST_PORTIONS c = rw (lt-leb _ 2024 c.if-links-gt-MOST_PORTIONS.true)

pub claim_all-requires-clause-by_index : goal.claim_all-requires-clause-by_index
claim_all-requires-clause-by_index c = λ q. zeros-all 2024 q

pub returns : goal.returns
returns c = let a = c.args in
    rw (le-leb _ 2024 c.if-links-gt-MOST_PORTIONS.false)
    (c.marks_fit.ensures ∙ claimed-all a.links.now (firsts a.directory.now) (counts a.directory.now) _ _ (c.claim_all.ensures.claimed (c.if-not-claim_all.false)))
