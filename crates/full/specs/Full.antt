-- Paper 02, §5: "Give 19 for too few free portions and another number for no empty entry. When both hold, 19 is given."
-- Assumes nothing.
use Rattle.std.specs.Prelude.{ℕ, not, List, [], ◌∷◌}
use Rattle.store.specs.Chain.{needed}
use Rattle.room.specs.Room.{has_portions, has_entry}
use Rattle.answers.specs.declared.Answer.TheVariants.{FewPortions, NoEntry}
use Rattle.answers.specs.Answers.{Row, row}

-- the last rows of a command that makes an entry of this size, with so many portions free: [19] "too few free portions", "23, no empty entry, directly after 19"
abbrev pub full_rows : ℕ → List ℕ → ℕ → List Row
full_rows free directory size = row FewPortions (not (has_portions free (needed size))) ∷ row NoEntry (not (has_entry directory)) ∷ []
