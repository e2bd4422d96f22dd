use mathlib.Core.Path.{ap}
use Rattle.writing.specs.Writing.{decimal}
use Rattle.writing.proofs.Writes.{wrote_then, wrote-same}
use Rattle.words.specs.Words.{number_word}
use Rattle.words.proofs.put_number.Goals as goal

pub returns : goal.returns
unfolding number_word
returns c = wrote_then (wrote-same c.put_decimal-comma.ensures (ap decimal c.number.ensures)) c.put.ensures
