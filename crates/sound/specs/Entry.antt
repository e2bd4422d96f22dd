-- Paper 01's table, 1 to 3: what every read and label call checks first.
-- Assumes nothing.
use Rattle.std.specs.Prelude.{ℕ, Bool, not, List, ◌∷◌}
use Rattle.font.specs.Rules.{legal as legal_font}
use Rattle.session.specs.declared.Session.{Session}
use Rattle.answers.specs.declared.Answer.TheVariants.{Lengths, Font, Unsound}
use Rattle.answers.specs.Answers.{Row, row}
use Rattle.lent.specs.Lent.{World}
use Rattle.sound.specs.Sound.{sound}

-- [1] "a lent length is wrong", [2] "the font breaks its rules", "checked by every read and label call", [3] "not sound"; then the call's own rows
abbrev pub entry_rows : Bool → List ℕ → Session → World → List Row → List Row
entry_rows wrong font s w rows = row Lengths wrong ∷ row Font (not (legal_font font)) ∷ row Unsound (not (sound s w)) ∷ rows
