-- What the normal form of a line owes it (theorem `normal-line`).
-- Assumes nothing.
use Rattle.std.specs.Prelude.{ℕ, ◌≡◌, List, Ok}
use Rattle.read.specs.Commands.{read_of}
use Rattle.grammar.specs.declared.Item.{Item}
use Rattle.grammar.specs.declared.Command.TheVariants.{Item as item}
use Rattle.normal.specs.Written.{normal}
use Rattle.normal.specs.Contents.{unplaced, contents}

-- the same command, the same contents, and itself when it is written again: so that "each form" is "a row of normalised lines"
pub record Normal (rows : ℕ) (s : List ℕ) (i : Item) : Type 0 where
  pub back : Item
  pub read : read_of rows (normal s) ≡ Ok (item back)
  pub same : unplaced back ≡ unplaced i
  pub content : contents (normal s) ≡ contents s
  pub again : normal (normal s) ≡ normal s
