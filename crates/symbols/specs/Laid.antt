-- Serves the code alone: what the functions that write widths into a lent list promise. Assumes nothing.
use Rattle.std.specs.Prelude.{ℕ, ◌+◌, ◌≡◌, List, [], ◌∷◌, length}
use Rattle.std.proofs.lemmas.List.Edits.{sets}

-- how many elements a symbol has at most: of Code 39, 128 bytes, start and stop of nine each, and gaps between them
abbrev pub most_elements : ℕ
most_elements = 1299

-- ws stand in the list from a place on, as far as it reaches, and r is the place after them
pub record Put (ws : List ℕ) (at : ℕ) (before after : List ℕ) (r : ℕ) : Type 0 where
  pub next : r ≡ at + length ws
  pub written : after ≡ sets before at ws

-- the rows of Interleaved 2 of 5 as the code has them: a 0 after each digit but the last, so that ten times one row, and another, are woven
unfoldable pub spread : List ℕ
spread =
    101020201 ∷ 201010102 ∷ 102010102 ∷ 202010101 ∷ 101020102 ∷ 201020101 ∷ 102020101 ∷ 101010202 ∷ 201010201 ∷ 102010201 ∷
    []
