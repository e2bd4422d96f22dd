use Rattle.store_check.proofs.Deciding.{lent_is, lent-long}
use Rattle.store_check.proofs.lent_ok.Goals as goal

pub returns-then-p-gt-MOST_PORTIONS : goal.returns-then-p-gt-MOST_PORTIONS
returns-then-p-gt-MOST_PORTIONS c = lent-long _ _ _ c.if-p-gt-MOST_PORTIONS.true

pub returns : goal.returns
returns c = lent_is _ _ _ _ _ _ _ c.if-p-gt-MOST_PORTIONS.false c.both.ensures c.both-2.ensures c.both-3.ensures c.both-4.ensures
