-- A lent list is a row of cells of one width: portions of 256 bytes, directory entries of 16, fields of 34.
use Rattle.std.specs.Prelude.{List, ℕ, ◌*◌, take, drop, replicate}
use Rattle.std.proofs.lemmas.List.Edits.{sets}

-- the j-th cell of w elements
unfoldable pub cell : ℕ → List ℕ → ℕ → List ℕ
cell w l j = take w (drop (j * w) l)

-- n zeros
unfoldable pub zeros : ℕ → List ℕ
zeros n = replicate n 0

-- the list with m stored over its j-th cell; what lies past the end is not stored
abbrev pub set_cell : ℕ → List ℕ → ℕ → List ℕ → List ℕ
set_cell w l j m = sets l (j * w) m
