-- The picture file of a page, as Netpbm's page on PBM has it: "P4", white space, the width and the height in decimal with white space after each, then
-- "a raster of Height rows, in order from top to bottom. Each row is Width bits, packed 8 to a byte, with don't care bits to fill out the last byte ..
-- high order bit first .. 1 is black"; the don't care bits are 0 here. Assumes nothing.
use Rattle.std.specs.Prelude.{ℕ, zero, suc, ◌+◌, ◌-◌, ◌*◌, ◌/◌, ◌^◌, cond, List, [], ◌∷◌, ◌++◌, get_or, leb}
use Rattle.kinds.specs.Text.{bytes}
use Rattle.sentences.specs.Texts.{numbered}

-- "packed 8 to a byte"
abbrev pub row_bytes : ℕ → ℕ
row_bytes width = (width + 7) / 8

-- the first k of a byte's eight dots, the others white
unfoldable pub cut : ℕ → ℕ → ℕ
cut k b = cond (leb 8 k) b (b / 2 ^ (8 - k) * 2 ^ (8 - k))

-- byte j of the row that starts at a byte of the page
abbrev pub byte_at : List ℕ → ℕ → ℕ → ℕ → ℕ
byte_at page width from j = cut (width - 8 * j) (get_or page (from + j) 0)

-- n bytes of that row, from byte j on
unfoldable pub row_from : List ℕ → ℕ → ℕ → ℕ → ℕ → List ℕ
row_from page width from j zero = []
row_from page width from j (suc n) = byte_at page width from j ∷ row_from page width from (suc j) n

-- n rows from row y on: "76 bytes a row"
unfoldable pub rows_from : List ℕ → ℕ → ℕ → ℕ → List ℕ
rows_from page width y zero = []
rows_from page width y (suc n) = row_from page width (76 * y) 0 (row_bytes width) ++ rows_from page width (suc y) n

unfoldable pub head_of : ℕ → ℕ → List ℕ
head_of width length = numbered (bytes "P4\n") width ++ (numbered (bytes " ") length ++ bytes "\n")

abbrev pub pbm_of : List ℕ → ℕ → ℕ → List ℕ
pbm_of page width length = head_of width length ++ rows_from page width 0 length
