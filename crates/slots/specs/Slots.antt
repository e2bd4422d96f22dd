-- The two slots of a lasting store's file: order, pictures so far, the session's image, the values, and the sum of all these, which starts from
-- the sum of head and body. In a file of version 1 the image ends before the number of free portions. Assumes nothing.
use Rattle.std.specs.Prelude.{ℕ, ◌+◌, ◌*◌, ◌%◌, Bool, cond, not, ◌&&◌, List, take, eqb}
use Rattle.std.proofs.lemmas.List.Edits.{sets}
use Rattle.session.specs.declared.Session.{Session}
use Rattle.low_first.specs.Low.{number_at, bytes_of}
use Rattle.calendar.specs.Clock.{fresh as midnight}
use Rattle.formats.specs.Formats.{examples}
use Rattle.session.specs.Session.{clocked, formatted}
use Rattle.image.specs.Image.{image_size, session_of, image_of}
use Rattle.lent.specs.Lent.{bytes_of_values}
use Rattle.file_parts.specs.Sums.{sum_on, part_of}

-- the head and each slot have a page of their own
abbrev pub page_bytes : ℕ
page_bytes = 4096

-- where slot k stands, and the slot of an order k
abbrev pub slot_of : ℕ → ℕ
slot_of k = page_bytes + page_bytes * (k % 2)

-- where the head has the sum of head and body
abbrev pub body_sum_at : ℕ
body_sum_at = 24

-- the parts of a slot behind its order of four bytes, one behind the other
abbrev pub pictures_at : ℕ
pictures_at = 4

abbrev pub image_at : ℕ
image_at = 8

-- where the head has the file's version; whether it is the first
abbrev pub version_at : ℕ
version_at = 16

abbrev pub is_first : List ℕ → Bool
is_first file = eqb (number_at 2 file version_at) 1

-- the session's image; in a file of version 1 without the number of free portions, which the links in the file's body say, and what stands behind it
unfoldable pub held_image : List ℕ → ℕ
held_image file = cond (is_first file) 65 image_size

abbrev pub values_at : List ℕ → ℕ
values_at file = image_at + held_image file

abbrev pub sum_at : List ℕ → ℕ
sum_at file = values_at file + bytes_of_values

-- a session that was kept before there was a clock takes that of an opening, and its formats
abbrev pub dated : Session → Session
dated s = formatted (clocked s midnight) examples

-- the session of the slot at a place
unfoldable pub session_in : List ℕ → ℕ → Session
session_in file at =
    let s : Session = session_of (part_of file (at + image_at) (held_image file)) in
    cond (is_first file) (dated s) s

-- order, pictures, session and values in the slot at a place
abbrev pub filled : List ℕ → ℕ → ℕ → ℕ → Session → List ℕ → List ℕ
filled file at order pictures s values = sets (sets (sets (sets file at (bytes_of 4 order)) (at + pictures_at) (bytes_of 4 pictures)) (at + image_at) (take (held_image file) (image_of s))) (at + values_at file) (take bytes_of_values values)

-- the sum of a slot starts from the sum of head and body
abbrev pub slot_sum : List ℕ → ℕ → ℕ
slot_sum file at = sum_on (number_at 4 file body_sum_at) (part_of file at (sum_at file))

abbrev pub summed_slot : List ℕ → ℕ → List ℕ
summed_slot file at = sets file (at + sum_at file) (bytes_of 4 (slot_sum file at))

unfoldable pub slotted : List ℕ → ℕ → ℕ → Session → List ℕ → List ℕ
slotted file order pictures s values = summed_slot (filled file (slot_of order) order pictures s values) (slot_of order)

-- the slot at a place has the sum that it says
abbrev pub whole : List ℕ → ℕ → Bool
whole file at = eqb (number_at 4 file (at + sum_at file)) (slot_sum file at)

-- the slot was begun, and a cut left it so
abbrev pub torn_at : List ℕ → ℕ → Bool
torn_at file at = not (eqb (number_at 4 file at) 0) && not (whole file at)
