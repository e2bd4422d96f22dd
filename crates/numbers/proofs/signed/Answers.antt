use Rattle.numbers.proofs.Laws.{number_small, behind-small}
use Rattle.numbers.proofs.signed.Goals as goal

pub above-requires : goal.above-requires
above-requires c = let a = c.args in rw (c.behind_sign.ensures, c.number.ensures) (behind-small a.line.now a.at)

pub below-requires : goal.below-requires
below-requires c = let a = c.args in rw (c.behind_sign-in-45.ensures, c.number-in-45.ensures) (behind-small a.line.now a.at)

pub above-requires-in_default : goal.above-requires-in_default
above-requires-in_default c = rw c.number-in_default.ensures (number_small _ _)
