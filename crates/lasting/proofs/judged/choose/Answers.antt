use Rattle.lasting.proofs.Verdicts.{chosen-second, chosen-first, chosen_none}
use Rattle.lasting.proofs.judged.choose.Goals as goal

pub returns-then-both : goal.returns-then-both
returns-then-both c = chosen-second _ _ _ _ _ _ _ c.is_whole-first.ensures c.is_whole-second.ensures c.order_of-earlier.ensures c.order_of-later.ensures c.either.ensures c.both.ensures c.if-both.true

pub returns-then-first : goal.returns-then-first
returns-then-first c = chosen-first _ _ _ _ _ _ _ c.is_whole-first.ensures c.is_whole-second.ensures c.order_of-earlier.ensures c.order_of-later.ensures c.either.ensures c.both.ensures c.if-both.false c.if-first.true

pub returns : goal.returns
returns c = chosen_none _ _ _ _ _ _ _ c.is_whole-first.ensures c.is_whole-second.ensures c.order_of-earlier.ensures c.order_of-later.ensures c.either.ensures c.both.ensures c.if-both.false c.if-first.false
