use Rattle.low_first.proofs.Numbers.{word_number}
use Rattle.image.proofs.word_at.Goals as goal

pub returns : goal.returns
returns c = word_number _ _ _ _ _ c.byte.ensures c.byte-2.ensures c.pair.ensures
