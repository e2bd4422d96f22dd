-- The number on small memories, computed. Of `links` two portions of four are free, `directory` has a form of 300 bytes and an empty entry.
-- Assumes nothing.
use Rattle.std.specs.Prelude.{ℕ, ◌/◌, ◌%◌, ◌≡◌, refl, true, false, List, [], ◌∷◌, ◌++◌, replicate}
use Rattle.cells.specs.Cell.{cell}
use Rattle.store.specs.Entry.{entry, size, many}
use Rattle.store.specs.Samples.{links, directory}
use Rattle.session.specs.declared.Session.{Session}
use Rattle.session.specs.Session.{fresh}
use Rattle.free_number.specs.Number.{called_for, free_number}
use Rattle.free_number.specs.After.{after_stored, after_grown, after_erased, after_erased_all}

-- "equals": one less and one more are other numbers
exactly-two : free_number links directory 1 ∷ free_number links directory 2 ∷ free_number links directory 3 ∷ [] ≡ false ∷ true ∷ false ∷ []
unfolding free_number cell size many
exactly-two = refl

-- an entry of each kind, with a size
abbrev stored : ℕ → ℕ → List ℕ
stored kind size = kind ∷ (replicate 11 0 ++ (size % 256 ∷ size / 256 ∷ 0 ∷ 0 ∷ []))

abbrev each_kind : List ℕ
each_kind = stored 0 0 ++ (stored 1 0 ++ (stored 2 257 ++ stored 3 512))

-- none for an empty entry, 1 for a form of no bytes, 2 for 257 bytes, 2 for 512
by_kind : called_for each_kind ≡ 5
unfolding cell size many
by_kind = refl

-- two portions are free: the number after each command
abbrev two : Session
two = fresh 240 2

-- FS; a picture of 256 bytes, of 257
new-entries : (after_stored two 0).free ∷ (after_stored two 256).free ∷ (after_stored two 257).free ∷ [] ≡ 1 ∷ 1 ∷ 0 ∷ []
new-entries = refl

-- a line that fills the form's last portion exactly takes none, one byte more takes one; 513 bytes need two more portions
lines :
    (after_grown two (entry directory 0) 212).free ∷ (after_grown two (entry directory 0) 213).free ∷ (after_grown two (entry directory 0) 513).free ∷ [] ≡ 2 ∷ 1 ∷ 0 ∷ []
unfolding cell size
lines = refl

-- the form is erased, alone or with all forms; there are no pictures
erased :
    (after_erased two (entry directory 0)).free ∷ (after_erased_all two false directory).free ∷ (after_erased_all two true directory).free ∷ [] ≡ 4 ∷ 4 ∷ 2 ∷ []
unfolding cell size many
erased = refl

-- of each kind: both forms, the one being recorded too, and the picture
all-erased : (after_erased_all two false each_kind).free ∷ (after_erased_all two true each_kind).free ∷ [] ≡ 5 ∷ 4 ∷ []
unfolding cell size many
all-erased = refl
