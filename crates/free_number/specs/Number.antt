-- Paper 02, §6: "Sound now also means that this number equals the portions of the lent store less those that the stored sizes call for."
-- Assumes nothing.
use Rattle.std.specs.Prelude.{Bool, cond, List, ℕ, ◌+◌, length, eqb}
use Rattle.cells.specs.Count.{sum_to}
use Rattle.store.specs.Entry.{entries, entry, kind, many, of_kind}

-- "those that the stored sizes call for": an entry of kind 1, 2 or 3 calls for its size/256 rounded up, at least one, an empty one for none. (A kind above 3 is
-- kept out by another clause of sound.)
abbrev pub called_for : List ℕ → ℕ
called_for directory = sum_to (λ i. many (entry directory i)) (entries directory)

-- "this number equals the portions of the lent store less those": said as a sum, since nothing is less than nothing. Each portion has one link
unfoldable pub free_number : List ℕ → List ℕ → ℕ → Bool
free_number links directory n = eqb (n + called_for directory) (length links)

-- those that the forms (false) or the pictures (true) call for
abbrev pub called_at : Bool → List ℕ → ℕ
called_at picture e = cond (of_kind picture (kind e)) (many e) 0

abbrev pub called_by : Bool → List ℕ → ℕ
called_by picture directory = sum_to (λ i. called_at picture (entry directory i)) (entries directory)
