-- What is found in links and directory: "New entries and portions are the lowest free"; an entry by kind and name; the form being recorded.
use Rattle.std.specs.Prelude.{List, Bool, cond, ◌&&◌, ℕ, ◌+◌, length, get_or, eqb, ltb, None, Option, Some}
use Rattle.cells.specs.Count.{all_to}
use Rattle.cells.specs.Scan.{lowest}
use Rattle.store.specs.Chain.{is_free}
use Rattle.store.specs.Entry.{entries, entry, kind, of_kind}

-- the lowest number below n that passes a test, if there is one
unfoldable pub found : (ℕ → Bool) → ℕ → Option ℕ
found test n = cond (ltb (lowest test n) n) (Some (lowest test n)) None

abbrev pub lowest_free : List ℕ → Option ℕ
lowest_free links = found (is_free links) (length links)

abbrev pub is_empty : List ℕ → ℕ → Bool
is_empty directory i = eqb (kind (entry directory i)) 0

abbrev pub lowest_empty : List ℕ → Option ℕ
lowest_empty directory = found (is_empty directory) (entries directory)

abbrev pub is_recording : List ℕ → ℕ → Bool
is_recording directory i = eqb (kind (entry directory i)) 3

abbrev pub recorded : List ℕ → Option ℕ
recorded directory = found (is_recording directory) (entries directory)

-- an entry bears a name of 8 zero-filled bytes
unfoldable pub same_name : List ℕ → List ℕ → Bool
same_name e n = all_to (λ k. eqb (get_or e (2 + k) 0) (get_or n k 0)) 8

-- entry i is of a kind, a picture or a form, and bears the name
unfoldable pub titled : List ℕ → Bool → List ℕ → ℕ → Bool
titled directory picture n i = of_kind picture (kind (entry directory i)) && same_name (entry directory i) n

abbrev pub titled_at : List ℕ → Bool → List ℕ → Option ℕ
titled_at directory picture n = found (titled directory picture n) (entries directory)
