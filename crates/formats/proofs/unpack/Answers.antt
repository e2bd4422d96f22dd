use Rattle.formats.specs.Formats.{unpacked}
use Rattle.std.proofs.Common.{rules}
use Rattle.formats.proofs.unpack.Goals as goal

pub returns : goal.returns
unfolding unpacked
returns c = search rules
