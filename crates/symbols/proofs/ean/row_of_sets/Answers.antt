use mathlib.Core.Path.{ap, ◌∙◌}
use lib.ListN.{get_or}
use Rattle.symbols.specs.Tables.{rows_set}
use Rattle.symbols.proofs.ean.row_of_sets.Goals as goal

pub returns : goal.returns
unfolding rows_set
returns c = c.row_in.ensures ∙ ap (λ v. get_or rows_set v 0) c.above.ensures.0
