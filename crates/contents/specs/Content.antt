-- The content of an entry: its size's bytes, along its chain.
use Rattle.std.specs.Prelude.{List, [], ◌∷◌, cond, ℕ, zero, suc, ◌+◌, ◌-◌, ◌*◌, min, length, get_or, ltb}
use Rattle.contents.specs.declared.Cursor.{Cursor}
use Rattle.store.specs.Chain.{bytes_a_portion, last_place}
use Rattle.store.specs.Entry.{entry, first, size}

-- where the byte behind that at place `at` of portion p lies
unfoldable pub portion_after : List ℕ → ℕ → ℕ → ℕ
portion_after links p at = cond (ltb at last_place) p (get_or links p 0)

unfoldable pub place_after : ℕ → ℕ
place_after at = cond (ltb at last_place) (at + 1) 0

-- so many bytes from place `at` of portion p on
unfoldable pub bytes_from : List ℕ → List ℕ → ℕ → ℕ → ℕ → List ℕ
bytes_from store links p at zero = []
bytes_from store links p at (suc left) = get_or store (p * bytes_a_portion + at) 0 ∷ bytes_from store links (portion_after links p at) (place_after at) left

-- how many bytes of an entry are read: its size, and on damaged memory no more than all portions hold
unfoldable pub extent : List ℕ → List ℕ → ℕ
extent links e = min (size e) (length links * bytes_a_portion)

-- the content of an entry e, and of entry i
unfoldable pub content_of : List ℕ → List ℕ → List ℕ → List ℕ
content_of store links e = bytes_from store links (first e) 0 (extent links e)

abbrev pub content : List ℕ → List ℕ → List ℕ → ℕ → List ℕ
content store links directory i = content_of store links (entry directory i)

-- ---- serves the code alone: a reader, which is a portion, a place in it, and how many bytes are left

abbrev pub cursor : ℕ → ℕ → ℕ → Cursor
cursor p at left = record { portion = p; at = at; left = left }

abbrev pub ahead : List ℕ → List ℕ → Cursor → List ℕ
ahead store links c = bytes_from store links c.portion c.at c.left

-- a reader at the start of entry i
abbrev pub cursor_at : List ℕ → List ℕ → ℕ → Cursor
cursor_at links directory i = cursor (first (entry directory i)) 0 (extent links (entry directory i))

-- a reader one byte on, and k bytes on
abbrev pub onward : List ℕ → Cursor → Cursor
onward links c = cursor (portion_after links c.portion c.at) (place_after c.at) (c.left - 1)

unfoldable pub after : List ℕ → Cursor → ℕ → Cursor
after links c zero = c
after links c (suc k) = after links (onward links c) k
