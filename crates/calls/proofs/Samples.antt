-- What the definitions say of a refused command, computed.
-- Assumes nothing.
use Rattle.std.specs.Prelude.{◌≡◌, refl, [], ◌∷◌}
use Rattle.cells.specs.Cell.{zeros}
use Rattle.answers.specs.declared.Answer.TheVariants.{Lengths}
use Rattle.session.specs.Session.{none}
use Rattle.lent.specs.Lent.{World, world}
use Rattle.calls.specs.Outcomes.{after, outcome}
use Rattle.calls.specs.Station.{cleared, refused}

-- a background of one byte, and nothing else
abbrev small : World
small = world (255 ∷ []) [] [] [] []

-- a refusal leaves that byte as it was
kept : refused Lengths 0 none small [] ≡ after (outcome Lengths none 0 0) small []
unfolding zeros cleared
kept = refl
