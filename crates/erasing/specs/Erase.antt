-- An entry is erased: "room freed is used again, zeroed". No other entry moves.
use Rattle.std.specs.Prelude.{Bool, cond, ℕ, zero, suc, min, length, get_or, set, eqb}
use Rattle.cells.specs.Cell.{zeros, set_cell}
use Rattle.store.specs.Chain.{bytes_a_portion, free_link}
use Rattle.store.specs.Entry.{bytes_an_entry, entries, kind, first, many, of_kind}
use Rattle.memory.specs.Memory.{Memory, memory, entry_of}

-- portion p zeroed and marked free
abbrev pub freed_one : Memory → ℕ → Memory
freed_one m p = memory (set_cell bytes_a_portion m.store p (zeros bytes_a_portion)) (set m.links p free_link) m.directory

-- n portions from p on freed, each link read before it is changed
unfoldable pub freed : Memory → ℕ → ℕ → Memory
freed m p zero = m
freed m p (suc n) = freed (freed_one m p) (get_or m.links p 0) n

-- entry i zeroed
abbrev pub emptied : Memory → ℕ → Memory
emptied m i = memory m.store m.links (set_cell bytes_an_entry m.directory i (zeros bytes_an_entry))

-- entry i with its portions; on damaged memory no more links are followed than there are
unfoldable pub erased : Memory → ℕ → Memory
erased m i = emptied (freed m (first (entry_of m i)) (min (many (entry_of m i)) (length m.links))) i

-- entry i, if there is one
abbrev pub erased_at : Memory → ℕ → Memory
erased_at m i = cond (eqb (kind (entry_of m i)) 0) m (erased m i)

-- entry i, if it is of the kind
abbrev pub erased_if : Bool → Memory → ℕ → Memory
erased_if picture m i = cond (of_kind picture (kind (entry_of m i))) (erased m i) m

-- all entries of a kind, from entry i on, so many of them
unfoldable pub erased_from : Bool → Memory → ℕ → ℕ → Memory
erased_from picture m i zero = m
erased_from picture m i (suc left) = erased_from picture (erased_if picture m i) (suc i) left

-- "`"*"` erases all, none included"
abbrev pub erased_all : Bool → Memory → Memory
erased_all picture m = erased_from picture m 0 (entries m.directory)
