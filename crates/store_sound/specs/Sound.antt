-- The store's part of **Sound**, one Bool for each clause, in the order of paper 01: "names upper-case, legal, unique per kind (1 and 3 are one
-- kind); at most one entry of kind 3; each chain of exactly size/256 rounded up, at least one, portions; no portion in two chains; all others free;
-- unused bytes zero". Each has a value on any memory.
use Rattle.std.specs.Prelude.{List, Bool, false, not, ◌&&◌, ◌||◌, cond, ℕ, ◌-◌, ◌*◌, length, get_or, drop, eqb, ltb, leb, None, Option, Some}
use Prim.Native.Char.{code}
use Rattle.cells.specs.Count.{times, sum_to, all_to, all_zero}
use Rattle.store.specs.Chain.{most_portions, bytes_a_portion, needed, portion, is_free, chain, chain_ok}
use Rattle.store.specs.Entry.{most_entries, bytes_an_entry, entries, entry, kind, name_length, name, first, size, many, last_of}
use Rattle.finding.specs.Find.{is_empty, is_recording, recorded, titled_at}

-- "Store: 1 to 2,024 portions of 256 bytes", links "one for each portion", "Directory: 1 to 512 entries of 16 bytes"
unfoldable pub lent_ok : List ℕ → List ℕ → List ℕ → Bool
lent_ok store links directory =
    leb (length links) most_portions
    && (leb 1 (length links)
    && (eqb (length store) (length links * bytes_a_portion)
    && (eqb (length directory) (entries directory * bytes_an_entry) && (leb 1 (entries directory) && leb (entries directory) most_entries))))

-- "these numbers in their ranges": the kinds, 0 to 3
abbrev pub kind_ok : List ℕ → ℕ → Bool
kind_ok directory i = leb (kind (entry directory i)) 3

unfoldable pub kinds_ok : List ℕ → Bool
kinds_ok directory = all_to (kind_ok directory) (entries directory)

-- "names upper-case, legal": 1 to 8 bytes, codes 32 to 126 without `*` and quote, no letter a to z; the 8 bytes zero-filled
unfoldable pub legal_byte : ℕ → Bool
legal_byte b =
    (leb (code " ") b && leb b (code "~")) && (not (eqb b (code "*")) && (not (eqb b (code "\"")) && not (leb (code "a") b && leb b (code "z"))))

unfoldable pub name_byte_ok : ℕ → List ℕ → ℕ → Bool
name_byte_ok n title k = cond (ltb k n) (legal_byte (get_or title k 0)) (eqb (get_or title k 0) 0)

unfoldable pub name_ok : List ℕ → Bool
name_ok e = (leb 1 (name_length e) && leb (name_length e) 8) && all_to (name_byte_ok (name_length e) (name e)) 8

abbrev pub named_ok : List ℕ → ℕ → Bool
named_ok directory i = is_empty directory i || name_ok (entry directory i)

unfoldable pub names_ok : List ℕ → Bool
names_ok directory = all_to (named_ok directory) (entries directory)

-- "unique per kind (1 and 3 are one kind)": an entry is the one that is found by its kind and name
abbrev pub is_here : ℕ → Option ℕ → Bool
is_here i (Some j) = eqb j i
is_here i None = false

unfoldable pub unique_ok : List ℕ → ℕ → Bool
unique_ok directory i =
    is_empty directory i || is_here i (titled_at directory (eqb (kind (entry directory i)) 2) (name (entry directory i)))

unfoldable pub uniques_ok : List ℕ → Bool
uniques_ok directory = all_to (unique_ok directory) (entries directory)

-- "at most one entry of kind 3": one that is of kind 3 is the one that is found
unfoldable pub single_ok : List ℕ → ℕ → Bool
single_ok directory i = not (is_recording directory i) || is_here i (recorded directory)

unfoldable pub singles_ok : List ℕ → Bool
singles_ok directory = all_to (single_ok directory) (entries directory)

-- ---- chains

-- the first portions and the counts of portions of a directory's entries
abbrev pub firsts : List ℕ → ℕ → ℕ
firsts directory i = first (entry directory i)

abbrev pub counts : List ℕ → ℕ → ℕ
counts directory i = many (entry directory i)

-- how often portion q stands in the chains 0 .. n - 1, of which chain i has (ns i) portions from (fs i) on
abbrev pub uses : List ℕ → (ℕ → ℕ) → (ℕ → ℕ) → ℕ → ℕ → ℕ
uses links fs ns q n = sum_to (λ i. times q (chain links (fs i) (ns i))) n

-- "each chain of exactly size/256 rounded up, at least one, portions"
abbrev pub chained : List ℕ → (ℕ → ℕ) → (ℕ → ℕ) → ℕ → Bool
chained links fs ns i = eqb (ns i) 0 || chain_ok links (fs i) (ns i)

-- "no portion in two chains; all others free": portion q is free and stands in no chain, or stands in one chain, once
unfoldable pub portion_ok : List ℕ → (ℕ → ℕ) → (ℕ → ℕ) → ℕ → ℕ → Bool
portion_ok links fs ns n q = eqb (uses links fs ns q n) (cond (is_free links q) 0 1)

unfoldable pub links_ok : List ℕ → (ℕ → ℕ) → (ℕ → ℕ) → ℕ → Bool
links_ok links fs ns n = all_to (chained links fs ns) n && all_to (portion_ok links fs ns n) (length links)

abbrev pub chains_ok : List ℕ → List ℕ → Bool
chains_ok links directory = links_ok links (firsts directory) (counts directory) (entries directory)

-- ---- "unused bytes zero"

-- "An empty entry is all zero"
abbrev pub empty_ok : List ℕ → ℕ → Bool
empty_ok directory i = not (is_empty directory i) || all_zero (entry directory i)

unfoldable pub empties_ok : List ℕ → Bool
empties_ok directory = all_to (empty_ok directory) (entries directory)

-- the bytes of free portions
abbrev pub free_ok : List ℕ → List ℕ → ℕ → Bool
free_ok store links q = not (is_free links q) || all_zero (portion store q)

unfoldable pub frees_ok : List ℕ → List ℕ → Bool
frees_ok store links = all_to (free_ok store links) (length links)

-- the tail of each chain's last portion: what lies behind the bytes of the entry's size
unfoldable pub tail_of : List ℕ → List ℕ → List ℕ → List ℕ
tail_of store links e = drop (size e - bytes_a_portion * (needed (size e) - 1)) (portion store (last_of links e))

abbrev pub tail_ok : List ℕ → List ℕ → List ℕ → ℕ → Bool
tail_ok store links directory i = is_empty directory i || all_zero (tail_of store links (entry directory i))

unfoldable pub tails_ok : List ℕ → List ℕ → List ℕ → Bool
tails_ok store links directory = all_to (tail_ok store links directory) (entries directory)

-- ---- all of it

unfoldable pub store_sound : List ℕ → List ℕ → List ℕ → Bool
store_sound store links directory =
    lent_ok store links directory
    && ((kinds_ok directory && (names_ok directory && (uniques_ok directory && singles_ok directory)))
    && (chains_ok links directory && (empties_ok directory && (frees_ok store links && tails_ok store links directory))))
