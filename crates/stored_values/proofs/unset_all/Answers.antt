use mathlib.Core.Path.{◌∙◌}
use lib.ListN.{length, replicate, length-replicate}
use Rattle.ground.proofs.Stores.{sets-all}
use Rattle.stored_values.specs.Stored.{unset}
use Rattle.stored_values.proofs.unset_all.Goals as goal

pub returns : goal.returns
unfolding unset
returns c = c.fill.ensures ∙ sets-all c.args.values.now (replicate (length c.args.values.now) 0) (length-replicate (length c.args.values.now) 0)
