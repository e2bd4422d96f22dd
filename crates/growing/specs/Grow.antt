-- What is stored grows byte by byte. A byte that the portions so far do not hold takes the lowest free portion, which is hung behind the last.
use Rattle.std.specs.Prelude.{List, [], ◌∷◌, Bool, ◌&&◌, cond, ℕ, ◌+◌, ◌*◌, ◌/◌, ◌%◌, length, set, eqb, ltb}
use Rattle.std.proofs.lemmas.List.Edits.{sets}
use Rattle.store.specs.Chain.{bytes_a_portion, end_link}
use Rattle.store.specs.Entry.{bytes_an_entry, size, last_of}
use Rattle.memory.specs.Memory.{Memory, memory, entry_of}
use Rattle.room.specs.Room.{lowest_portion}

-- the portions are full: the size is a multiple of 256, and not 0
abbrev pub full : ℕ → Bool
full size = eqb (size % bytes_a_portion) 0 && ltb 0 size

-- the portion that the next byte goes to, and the links then; a link has 16 bits
unfoldable pub next_last : List ℕ → ℕ → ℕ → ℕ
next_last links last size = cond (full size) (lowest_portion links) last

unfoldable pub next_links : List ℕ → ℕ → ℕ → List ℕ
next_links links last size = cond (full size) (set (set links last (lowest_portion links % 65536)) (lowest_portion links) end_link) links

-- the store, the links, the last portion and the size of what grows
pub record Growing : Type 0 where
  pub store : List ℕ
  pub links : List ℕ
  pub last : ℕ
  pub size : ℕ

abbrev pub growing : List ℕ → List ℕ → ℕ → ℕ → Growing
growing st ls l n = record { store = st; links = ls; last = l; size = n }

-- one byte more
abbrev pub put : Growing → ℕ → Growing
put g b =
    growing
    (set g.store (next_last g.links g.last g.size * bytes_a_portion + g.size % bytes_a_portion) b)
    (next_links g.links g.last g.size)
    (next_last g.links g.last g.size)
    (g.size + 1)

abbrev pub put_all : Growing → List ℕ → Growing
put_all g [] = g
put_all g (b ∷ bs) = put_all (put g b) bs

-- the directory with another size in entry i: "size (4 bytes), low byte first"
unfoldable pub with_size : List ℕ → ℕ → ℕ → List ℕ
with_size directory i n = sets directory (i * bytes_an_entry + 12) (n % 256 ∷ n / 256 % 256 ∷ n / 65536 % 256 ∷ n / 16777216 % 256 ∷ [])

-- entry i with bytes put behind its own
unfoldable pub grown : Memory → ℕ → List ℕ → Memory
grown m i bytes =
    memory
    (put_all (growing m.store m.links (last_of m.links (entry_of m i)) (size (entry_of m i))) bytes).store
    (put_all (growing m.store m.links (last_of m.links (entry_of m i)) (size (entry_of m i))) bytes).links
    (with_size m.directory i (size (entry_of m i) + length bytes))
