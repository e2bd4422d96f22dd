use mathlib.Core.Path.{ap, ◌∙◌}
use lib.ListN.{get_or}
use Rattle.symbols.specs.Tables.{rows39}
use Rattle.symbols.proofs.code39.row.Goals as goal

pub returns : goal.returns
unfolding rows39
returns c = c.row_in.ensures ∙ ap (λ v. get_or rows39 v 0) c.above.ensures.0
