use Rattle.formats.specs.Formats.{packed}
use Rattle.std.proofs.Common.{rules}
use Rattle.formats.proofs.pack.Goals as goal

pub returns : goal.returns
unfolding packed
returns c = search rules
