use mathlib.Core.Path.{ap, ◌∙◌}
use lib.ListN.{get_or}
use Rattle.symbols.specs.Laid.{spread}
use Rattle.symbols.proofs.interleaved.row.Goals as goal

pub returns : goal.returns
unfolding spread
returns c = c.row_in.ensures ∙ ap (λ v. get_or spread v 0) c.above.ensures.0
