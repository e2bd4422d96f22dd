use Rattle.low_first.proofs.Numbers.{long-number}
use Rattle.image.proofs.value_at.Goals as goal

pub returns : goal.returns
returns c = long-number _ _ _ _ _ c.word_at-low.ensures c.word_at-high.ensures c.joined.ensures
