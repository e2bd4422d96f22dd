-- What the definitions say of small lists, computed.
-- Assumes nothing.
use Rattle.std.specs.Prelude.{◌≡◌, refl, [], ◌∷◌, false, eqb, ltb}
use Rattle.cells.specs.Cell.{cell}
use Rattle.cells.specs.Count.{times, sum_to}
use Rattle.cells.specs.Scan.{lowest_from, lowest}

-- the lowest number that passes is itself the answer, and where none passes, the bound
found : lowest (λ k. ltb 2 k) 5 ≡ 3
unfolding lowest_from
found = refl

none : lowest (λ k. false) 5 ≡ 5
unfolding lowest_from
none = refl

-- the second cell of two
second : cell 2 (7 ∷ 8 ∷ 9 ∷ 10 ∷ []) 1 ≡ 9 ∷ 10 ∷ []
unfolding cell
second = refl

counted : times 7 (7 ∷ 8 ∷ 7 ∷ []) ≡ 2
counted = refl

summed : sum_to (λ k. k) 4 ≡ 6
summed = refl
