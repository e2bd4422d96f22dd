use mathlib.Core.Path.{refl}
use Rattle.counters.specs.Counters.{none_set}
use Rattle.counters.proofs.Counters.none.Goals as goal

pub returns : goal.returns
unfolding none_set
returns c = refl
