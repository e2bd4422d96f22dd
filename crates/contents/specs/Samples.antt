-- The content of a small memory's form, computed: 300 bytes in portions 2 and 0.
use Rattle.std.specs.Prelude.{◌≡◌, refl, List, ℕ, length, get_or, set, replicate}
use Rattle.cells.specs.Cell.{cell}
use Rattle.store.specs.Entry.{first, size}
use Rattle.store.specs.Samples.{links, directory}
use Rattle.contents.specs.Content.{portion_after, place_after, bytes_from, extent, content_of, content}

-- 7 is byte 299 of the form: byte 43 of portion 0
store : List ℕ
store = set (replicate 1024 0) 43 7

its-last-byte : get_or (content store links directory 0) 299 0 ≡ 7
unfolding store cell first size content_of extent bytes_from portion_after place_after
its-last-byte = refl

its-length : length (content store links directory 0) ≡ 300
unfolding store cell first size content_of extent bytes_from portion_after place_after
its-length = refl
