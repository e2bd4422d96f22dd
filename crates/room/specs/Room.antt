-- "New entries and portions are the lowest free"; paper 02, §5: "Give 19 for too few free portions and another number for no empty entry." How many portions are
-- free is a number here, whether a session keeps it (§6) or the links marked free are counted.
use Rattle.std.specs.Prelude.{List, Bool, ◌&&◌, not, ℕ, ◌+◌, ◌-◌, length, eqb, ltb, leb}
use Rattle.ground.specs.Numbers.{one}
use Rattle.cells.specs.Count.{sum_to}
use Rattle.cells.specs.Scan.{lowest}
use Rattle.store.specs.Chain.{needed, is_free}
use Rattle.store.specs.Entry.{entries, kind, size, size_limit}
use Rattle.finding.specs.Find.{is_empty}

-- the number of the lowest free portion; as many as there are where none is free
abbrev pub lowest_portion : List ℕ → ℕ
lowest_portion links = lowest (is_free links) (length links)

-- the number of the lowest empty entry; as many as there are where none is empty
abbrev pub lowest_entry : List ℕ → ℕ
lowest_entry directory = lowest (is_empty directory) (entries directory)

-- how many entries are empty
abbrev pub empty_count : List ℕ → ℕ
empty_count directory = sum_to (λ i. one (is_empty directory i)) (entries directory)

-- not "too few free portions": as many are free
abbrev pub has_portions : ℕ → ℕ → Bool
has_portions free n = leb n free

-- not "no empty entry"
abbrev pub has_entry : List ℕ → Bool
has_entry directory = ltb (lowest_entry directory) (entries directory)

-- there is room for a new entry of this size: an empty entry, and as many free portions as are needed
unfoldable pub has_room : ℕ → List ℕ → ℕ → Bool
has_room free directory size = has_entry directory && has_portions free (needed size)

-- how many portions more an entry of this size needs for so many bytes more: none while its last portion holds them
abbrev pub needed_for : ℕ → ℕ → ℕ
needed_for size more = needed (size + more) - needed size

-- an entry is there, its size can be written, and there are as many free portions as are needed
unfoldable pub can_grow : ℕ → List ℕ → ℕ → Bool
can_grow free e more = not (eqb (kind e) 0) && (ltb (size e + more) size_limit && has_portions free (needed_for (size e) more))
