use Rattle.finding.specs.Bytes.{four}
use Rattle.std.proofs.Common.{rules}
use Rattle.finding.proofs.four.Goals as goal

pub returns : goal.returns
unfolding four
returns c = search rules
