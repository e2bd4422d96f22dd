use Rattle.unread.proofs.Lengths.{more-behind}
use Rattle.unread.proofs.more_of.Goals as goal

pub returns : goal.returns
returns c = let b = c in
    more-behind _ _ _ _ _ _ _ _ b.rest-behind.ensures b.rest.ensures c.less.ensures c.less-2.ensures c.first.ensures
