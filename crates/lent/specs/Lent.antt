-- "What is lent", and when a lent length is wrong.
-- Assumes nothing.
use Rattle.std.specs.Prelude.{ℕ, ◌*◌, ◌/◌, ◌%◌, Bool, not, ◌||◌, List, length, eqb, ltb}
use Rattle.dots.specs.Dots.{bytes_a_row}
use Rattle.stored_values.specs.Stored.{bytes_a_field}
use Rattle.store.specs.Chain.{most_portions, bytes_a_portion}
use Rattle.store.specs.Entry.{most_entries, bytes_an_entry}

-- the lists that every call is lent beside the font
pub record World : Type 0 where
  pub background : List ℕ
  pub store : List ℕ
  pub links : List ℕ
  pub directory : List ℕ
  pub values : List ℕ

abbrev pub world : List ℕ → List ℕ → List ℕ → List ℕ → List ℕ → World
world b s l d v = record { background = b; store = s; links = l; directory = d; values = v }

-- "76 bytes a row, N rows, 1 to 4,000"
abbrev pub most_rows : ℕ
most_rows = 4000

-- N, the rows of a background
abbrev pub rows_of : World → ℕ
rows_of w = length w.background / bytes_a_row

-- a page or background of so many bytes
unfoldable pub page_wrong : ℕ → Bool
page_wrong n = not (eqb (n % bytes_a_row) 0) || (ltb n bytes_a_row || ltb (most_rows * bytes_a_row) n)

-- "1 to 2,024 portions", links "one for each portion"
unfoldable pub links_wrong : ℕ → Bool
links_wrong links = ltb most_portions links || eqb links 0

-- "portions of 256 bytes"
unfoldable pub store_wrong : ℕ → ℕ → Bool
store_wrong store links = links_wrong links || not (eqb store (links * bytes_a_portion))

-- "1 to 512 entries of 16 bytes"
unfoldable pub directory_wrong : ℕ → Bool
directory_wrong n = not (eqb (n % bytes_an_entry) 0) || (ltb n bytes_an_entry || ltb (most_entries * bytes_an_entry) n)

-- "10 fields of 34 bytes"
abbrev pub bytes_of_values : ℕ
bytes_of_values = 10 * bytes_a_field

abbrev pub values_wrong : ℕ → Bool
values_wrong n = not (eqb n bytes_of_values)

-- [1] "a lent length is wrong"
unfoldable pub lengths_wrong : ℕ → ℕ → ℕ → ℕ → ℕ → Bool
lengths_wrong background store links directory values =
    page_wrong background || (store_wrong store links || (directory_wrong directory || values_wrong values))

-- of the lists themselves
abbrev pub wrong_lent : World → Bool
wrong_lent w = lengths_wrong (length w.background) (length w.store) (length w.links) (length w.directory) (length w.values)
