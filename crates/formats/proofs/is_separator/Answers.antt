use Rattle.formats.specs.Formats.{separator}
use Rattle.formats.proofs.is_separator.Goals as goal

pub returns : goal.returns
unfolding separator
returns c = cc
