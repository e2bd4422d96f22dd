-- "Store: 1 to 2,024 portions of 256 bytes (the manual's 506 k_b). Links: a lent table of 16-bit numbers, one for each portion: the next portion, 65534 at a chain's end,
-- 65535 free." Past the end of a list 0 is read, so that every definition has a value on any memory.
use Rattle.std.specs.Prelude.{List, [], ◌∷◌, ◌++◌, Bool, ◌&&◌, ℕ, zero, suc, ◌+◌, ◌/◌, max, length, get_or, eqb, ltb}
use Rattle.cells.specs.Cell.{cell}
use Rattle.cells.specs.Count.{times}

-- "1 to 2,024 portions"
abbrev pub most_portions : ℕ
most_portions = 2024

-- "portions of 256 bytes"; the place of a portion's last byte
abbrev pub bytes_a_portion : ℕ
bytes_a_portion = 256

abbrev pub last_place : ℕ
last_place = 255

-- "65534 at a chain's end, 65535 free"
abbrev pub end_link : ℕ
end_link = 65534

abbrev pub free_link : ℕ
free_link = 65535

-- "size/256 rounded up, at least one": how many portions hold so many bytes
abbrev pub needed : ℕ → ℕ
needed size = max 1 ((size + last_place) / bytes_a_portion)

-- the 256 bytes of portion p
abbrev pub portion : List ℕ → ℕ → List ℕ
portion store p = cell bytes_a_portion store p

-- a portion is free
abbrev pub is_free : List ℕ → ℕ → Bool
is_free links q = eqb (get_or links q 0) free_link

-- how many portions are free
abbrev pub free_count : List ℕ → ℕ
free_count links = times free_link links

-- the first n portions of the chain that starts at p
abbrev pub chain : List ℕ → ℕ → ℕ → List ℕ
chain links p zero = []
chain links p (suc n) = p ∷ chain links (get_or links p 0) n

-- a chain of exactly n portions starts at p: each is a portion of the store, and behind the last stands the end mark
abbrev pub chain_ok : List ℕ → ℕ → ℕ → Bool
chain_ok links p zero = eqb p end_link
chain_ok links p (suc n) = ltb p (length links) && chain_ok links (get_or links p 0) n

-- the portion that stands n links behind p
abbrev pub walk : List ℕ → ℕ → ℕ → ℕ
walk links p zero = p
walk links p (suc n) = walk links (get_or links p 0) n

-- the bytes of the portions ps, one after another
abbrev pub bytes_of : List ℕ → List ℕ → List ℕ
bytes_of store [] = []
bytes_of store (p ∷ ps) = portion store p ++ bytes_of store ps
