use mathlib.Core.Path.{◌∙◌}
use lib.ListN.{length, replicate, length-replicate}
use Rattle.ground.proofs.Stores.{sets-all}
use Rattle.cells.specs.Cell.{zeros}
use Rattle.clearing.proofs.zero.Goals as goal

pub returns : goal.returns
unfolding zeros
returns c = c.fill.ensures ∙ sets-all c.args.bytes.now (replicate (length c.args.bytes.now) 0) (length-replicate (length c.args.bytes.now) 0)
