-- Serves the code alone: eight bytes as one number, so that names are compared at once.
use Rattle.std.specs.Prelude.{List, Bool, ◌&&◌, ℕ, ◌+◌, ◌*◌, get_or, eqb}
use Rattle.store.specs.Entry.{bytes_an_entry, entry, kind, of_kind}

-- the number that two, four and eight bytes from a place on make, low byte first
unfoldable pub two : List ℕ → ℕ → ℕ
two s at = get_or s at 0 + 256 * get_or s (at + 1) 0

unfoldable pub four : List ℕ → ℕ → ℕ
four s at = two s at + 65536 * two s (at + 2)

unfoldable pub eight : List ℕ → ℕ → ℕ
eight s at = four s at + 4294967296 * four s (at + 4)

-- entry i bears the name that makes the number w, and is of the kind
unfoldable pub titled_by : List ℕ → Bool → ℕ → ℕ → Bool
titled_by directory picture w i = eqb (eight directory (i * bytes_an_entry + 2)) w && of_kind picture (kind (entry directory i))
