-- A refused opening, computed: a background of one byte is no row, and all that was lent stays as it is.
-- Assumes nothing.
use Rattle.std.specs.Prelude.{◌≡◌, refl, [], ◌∷◌}
use Rattle.answers.specs.declared.Answer.TheVariants.{Lengths}
use Rattle.session.specs.Label.{labelled}
use Rattle.session.specs.Session.{none}
use Rattle.lent.specs.Lent.{World, world, page_wrong, lengths_wrong}
use Rattle.opening.specs.Opening.{opened_by, opened}

abbrev lent : World
lent = world (1 ∷ []) (2 ∷ []) (3 ∷ []) (4 ∷ []) (5 ∷ [])

refused : opened (6 ∷ []) lent ≡ opened_by (labelled Lengths none) (6 ∷ []) lent
unfolding opened lengths_wrong page_wrong
refused = refl
