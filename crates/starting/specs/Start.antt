-- An entry is started, and a form finished. "New entries and portions are the lowest free; room freed is used again, zeroed. A starting form takes one portion."
use Rattle.std.specs.Prelude.{List, [], ◌∷◌, cond, ℕ, ◌*◌, ◌/◌, ◌%◌, get_or, set, eqb}
use Rattle.cells.specs.Cell.{set_cell}
use Rattle.cells.specs.Scan.{lowest}
use Rattle.store.specs.Chain.{end_link}
use Rattle.store.specs.Entry.{bytes_an_entry}
use Rattle.finding.specs.Find.{is_recording}
use Rattle.memory.specs.Memory.{Memory, memory}
use Rattle.room.specs.Room.{lowest_portion, lowest_entry}

-- "name in 8 bytes zero-filled": how many bytes a name has before the zeros
unfoldable pub name_end : List ℕ → ℕ
name_end n = lowest (λ k. eqb (get_or n k 0) 0) 8

-- the 16 bytes of a new entry: "kind", "name length", "name in 8 bytes zero-filled, first portion (2 bytes), size (4 bytes), low byte first"; the size is 0
unfoldable pub new_entry : ℕ → List ℕ → ℕ → List ℕ
new_entry k n q =
    k
    ∷ name_end n
    ∷ get_or n 0 0
    ∷ get_or n 1 0
    ∷ get_or n 2 0
    ∷ get_or n 3 0
    ∷ get_or n 4 0
    ∷ get_or n 5 0
    ∷ get_or n 6 0
    ∷ get_or n 7 0
    ∷ q % 256
    ∷ q / 256 % 256
    ∷ 0
    ∷ 0
    ∷ 0
    ∷ 0
    ∷ []

-- "A starting form takes one portion": a new entry of a kind, with a name and one portion. Whether there is room is asked
-- before (crate `room`)
unfoldable pub begun : Memory → ℕ → List ℕ → Memory
begun m k n =
    memory m.store
    (set m.links (lowest_portion m.links) end_link)
    (set_cell bytes_an_entry m.directory (lowest_entry m.directory) (new_entry k n (lowest_portion m.links)))

-- a form that was being recorded is one: kind 3 to 1
unfoldable pub finished : List ℕ → ℕ → List ℕ
finished directory i = cond (is_recording directory i) (set directory (i * bytes_an_entry) 1) directory
