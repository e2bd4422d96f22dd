-- "Directory: 1 to 512 entries of 16 bytes: kind (0 empty, 1 form, 2 picture, 3 form being recorded), name length, name in 8 bytes zero-filled, first
-- portion (2 bytes), size (4 bytes), low byte first. An empty entry is all zero."
use Rattle.std.specs.Prelude.{List, [], ◌∷◌, Bool, true, false, ◌||◌, cond, ℕ, ◌+◌, ◌-◌, ◌*◌, ◌/◌, min, length, get_or, eqb}
use Rattle.cells.specs.Cell.{cell}
use Rattle.store.specs.Chain.{needed, walk}

-- "1 to 512 entries"
abbrev pub most_entries : ℕ
most_entries = 512

-- "entries of 16 bytes"
abbrev pub bytes_an_entry : ℕ
bytes_an_entry = 16

-- how many entries a directory has, and entry i
abbrev pub entries : List ℕ → ℕ
entries directory = length directory / bytes_an_entry

abbrev pub entry : List ℕ → ℕ → List ℕ
entry directory i = cell bytes_an_entry directory i

-- the fields of an entry's 16 bytes
abbrev pub kind : List ℕ → ℕ
kind e = get_or e 0 0

abbrev pub name_length : List ℕ → ℕ
name_length e = get_or e 1 0

-- the name with the zeros that fill it up: 8 bytes
unfoldable pub name : List ℕ → List ℕ
name e = get_or e 2 0 ∷ get_or e 3 0 ∷ get_or e 4 0 ∷ get_or e 5 0 ∷ get_or e 6 0 ∷ get_or e 7 0 ∷ get_or e 8 0 ∷ get_or e 9 0 ∷ []

unfoldable pub first : List ℕ → ℕ
first e = get_or e 10 0 + 256 * get_or e 11 0

unfoldable pub size : List ℕ → ℕ
size e = get_or e 12 0 + 256 * get_or e 13 0 + 65536 * get_or e 14 0 + 16777216 * get_or e 15 0

-- "size (4 bytes)": a size that can be written is below this
abbrev pub size_limit : ℕ
size_limit = 4294967296

-- how many portions an entry has: none if it is empty
unfoldable pub many : List ℕ → ℕ
many e = cond (eqb (kind e) 0) 0 (needed (size e))

-- the last portion of an entry's chain; on damaged memory no more links are followed than there are
unfoldable pub last_of : List ℕ → List ℕ → ℕ
last_of links e = walk links (first e) (min (needed (size e)) (length links) - 1)

-- "1 and 3 are one kind": a kind is a picture's, or a form's
abbrev pub of_kind : Bool → ℕ → Bool
of_kind true k = eqb k 2
of_kind false k = eqb k 1 || eqb k 3
