use Rattle.formats.specs.Formats.{new_unit}
use Rattle.formats.proofs.new_unit.Goals as goal

pub returns : goal.returns
unfolding new_unit
returns c = cc
