-- The file of a store that lasts, byte by byte; every number low byte first. Assumes nothing.
--
--     0      "Skeinferry store", then two bytes each: version 2, rows, portions 2,024, entries 512; from 24 on the sum of these bytes and the body
--     4096   slot 0        each: order, pictures so far, the session's image, the values, and the sum of all these (crate `slots`)
--     8192   slot 1
--     12288  the body: directory, links (from 20480 on), store (from 24528 on), background (from 542672 on)
--
-- Between head, slots and body stand bytes that nobody reads. The whole slot of the greater order holds. The session's number of free portions
-- (paper 02, §6) is not read: it is that of the links marked free. A file of version 1 was made before there was a clock (§10) and is still read: its slots have the
-- front of the image alone.
use Rattle.std.specs.Prelude.{ℕ, zero, suc, ◌+◌, ◌-◌, ◌*◌, ◌/◌, ◌%◌, Bool, not, ◌&&◌, ◌||◌, cond, List, [], ◌∷◌, ◌++◌, length, get_or, eqb, ltb, Result, Ok, Err}
use Rattle.std.proofs.lemmas.List.Edits.{sets}
use Rattle.kinds.specs.Text.{bytes}
use Rattle.writing.specs.Writing.{equal}
use Rattle.low_first.specs.Low.{number_at, bytes_of}
use Rattle.file_parts.specs.Sums.{sum_on, part_of}
use Rattle.dots.specs.Dots.{bytes_a_row}
use Rattle.store.specs.Chain.{most_portions, bytes_a_portion}
use Rattle.store.specs.Entry.{most_entries, bytes_an_entry}
use Rattle.lent.specs.Lent.{most_rows}
use Rattle.slots.specs.Slots.{page_bytes, slot_of, version_at, is_first, body_sum_at, whole}
use Rattle.lasting.specs.declared.judged.Fault.{Fault}
use Rattle.lasting.specs.declared.judged.Fault.TheVariants.{Foreign, Version, Sizes, Length, Damaged, Slots}

-- ---- the links: two bytes each

-- n links from link k on
unfoldable pub link_bytes : ℕ → ℕ → List ℕ → List ℕ
link_bytes zero k links = []
link_bytes (suc n) k links = bytes_of 2 (get_or links k 0) ++ link_bytes n (suc k) links

-- n links from a place of the file on
unfoldable pub links_from : ℕ → List ℕ → ℕ → List ℕ
links_from zero file at = []
links_from (suc n) file at = number_at 2 file at ∷ links_from n file (2 + at)

-- ---- where things stand

-- the head: what names the file, then two bytes each, then the sum
abbrev pub name : List ℕ
name = bytes "Skeinferry store"

-- the version that is written
abbrev pub version : ℕ
version = 2

abbrev pub rows_at : ℕ
rows_at = 18

abbrev pub portions_at : ℕ
portions_at = 20

abbrev pub entries_at : ℕ
entries_at = 22

-- the body, behind the pages of head and slots: directory, links, store, background
abbrev pub body_at : ℕ
body_at = 3 * page_bytes

abbrev pub directory_bytes : ℕ
directory_bytes = most_entries * bytes_an_entry

abbrev pub links_at : ℕ
links_at = body_at + directory_bytes

abbrev pub store_at : ℕ
store_at = links_at + 2 * most_portions

abbrev pub store_bytes : ℕ
store_bytes = most_portions * bytes_a_portion

abbrev pub background_at : ℕ
background_at = store_at + store_bytes

-- ---- head and body

abbrev pub rows_of : List ℕ → ℕ
rows_of file = number_at 2 file rows_at

abbrev pub file_size : ℕ → ℕ
file_size rows = background_at + bytes_a_row * rows

unfoldable pub file_sum : List ℕ → ℕ
file_sum file = sum_on (sum_on 1 (part_of file 0 body_sum_at)) (part_of file body_at (background_at - body_at + bytes_a_row * rows_of file))

abbrev pub headed : List ℕ → ℕ → List ℕ
headed file rows = sets (sets (sets (sets (sets file 0 name) version_at (bytes_of 2 version)) rows_at (bytes_of 2 rows)) portions_at (bytes_of 2 most_portions)) entries_at (bytes_of 2 most_entries)

abbrev pub rows_in : List ℕ → ℕ
rows_in background = length background / bytes_a_row % 65536

unfoldable pub placed : List ℕ → List ℕ → List ℕ → List ℕ → List ℕ → List ℕ
placed file background store links directory =
    sets (sets (sets (sets (headed file (rows_in background)) body_at directory) links_at (link_bytes most_portions 0 links)) store_at store) background_at background

abbrev pub sealed : List ℕ → List ℕ
sealed file = sets file body_sum_at (bytes_of 4 (file_sum file))

-- ---- any bytes judged

-- neither the first version nor the one that is written
abbrev pub version_wrong : List ℕ → Bool
version_wrong file = not (is_first file) && not (eqb (number_at 2 file version_at) version)

abbrev pub sizes_wrong : List ℕ → Bool
sizes_wrong file =
    eqb (rows_of file) 0 || (ltb most_rows (rows_of file) || (not (eqb (number_at 2 file portions_at) most_portions) || not (eqb (number_at 2 file entries_at) most_entries)))

unfoldable pub chosen : List ℕ → Result ℕ Fault
chosen file =
    cond (whole file (slot_of 1) && (not (whole file (slot_of 0)) || ltb (number_at 4 file (slot_of 0)) (number_at 4 file (slot_of 1)))) (Ok 1)
    (cond (whole file (slot_of 0)) (Ok 0) (Err Slots))

unfoldable pub judged : List ℕ → Result ℕ Fault
judged file =
    cond (not (equal (part_of file 0 version_at) name)) (Err Foreign)
    (cond (version_wrong file) (Err Version)
    (cond (sizes_wrong file) (Err Sizes)
    (cond (not (eqb (length file) (file_size (rows_of file)))) (Err Length)
    (cond (not (eqb (file_sum file) (number_at 4 file body_sum_at))) (Err Damaged)
    (chosen file)))))
