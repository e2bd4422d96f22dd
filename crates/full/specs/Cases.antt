-- Which kind of full, computed, with two portions free and with none. Of `directory` one entry of two is empty.
-- Assumes nothing.
use Rattle.std.specs.Prelude.{ℕ, ◌≡◌, refl, List, [], ◌∷◌, ◌++◌, take, replicate}
use Rattle.cells.specs.Cell.{cell}
use Rattle.cells.specs.Scan.{lowest_from}
use Rattle.store.specs.Entry.{bytes_an_entry}
use Rattle.store.specs.Samples.{directory}
use Rattle.answers.specs.Answers.{answer_of, number_of}
use Rattle.full.specs.Full.{full_rows}

-- both entries in use, the second by a form being recorded
abbrev pub all_in_use : List ℕ
all_in_use = take bytes_an_entry directory ++ (3 ∷ replicate 15 0)

unfoldable given : ℕ → List ℕ → ℕ → ℕ
given free dir size = number_of (answer_of (full_rows free dir size))

-- there is room for no bytes, and for as many as the free portions hold
room-left : given 2 directory 0 ∷ given 2 directory 512 ∷ [] ≡ 0 ∷ 0 ∷ []
unfolding given answer_of number_of lowest_from cell
room-left = refl

-- "19 for too few free portions": for one byte more, and where none is free
few-portions : given 2 directory 513 ∷ given 0 directory 0 ∷ [] ≡ 19 ∷ 19 ∷ []
unfolding given answer_of number_of lowest_from cell
few-portions = refl

-- "another number for no empty entry": portions are free
no-entry : given 2 all_in_use 0 ∷ given 2 all_in_use 512 ∷ [] ≡ 23 ∷ 23 ∷ []
unfolding given answer_of number_of lowest_from cell
no-entry = refl

-- "When both hold, 19 is given"
both : given 2 all_in_use 513 ∷ given 0 all_in_use 0 ∷ [] ≡ 19 ∷ 19 ∷ []
unfolding given answer_of number_of lowest_from cell
both = refl
