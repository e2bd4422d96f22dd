-- Paper 02, §11: "one line for each entry not of kind 0, in directory order: its number from 0, a space, and `kept` or the first reason to drop it: `name`, `chain`,
-- `size`, `shared` or `content`". Each reason is one test, in the section's words and order. Everything has a value on any memory.
-- Assumes nothing.
use Rattle.std.specs.Prelude.{List, [], ◌∷◌, Bool, false, not, ◌&&◌, ◌||◌, cond, ℕ, zero, suc, ◌+◌, ◌-◌, min, length, get_or, set, eqb, ltb, is_some}
use Rattle.cells.specs.Cell.{zeros}
use Rattle.store.specs.Chain.{most_portions, bytes_a_portion, end_link, needed, chain}
use Rattle.store.specs.Entry.{most_entries, entries, entry, kind, name, first, size}
use Rattle.finding.specs.Find.{found, is_empty, is_recording, titled}
use Rattle.memory.specs.Memory.{Memory, entry_of}
use Rattle.store_sound.specs.Sound.{kind_ok, named_ok}
use Rattle.content_check.specs.Contents.{most_picture, content_ok}

-- What is said of an entry, as a number, so that a list of bytes holds what is said of all: nothing of one that is empty, `kept`, or the reason to drop it.
abbrev pub unsaid : ℕ
unsaid = 0

abbrev pub kept : ℕ
kept = 1

abbrev pub for_name : ℕ
for_name = 2

abbrev pub for_chain : ℕ
for_chain = 3

abbrev pub for_size : ℕ
for_size = 4

abbrev pub for_shared : ℕ
for_shared = 5

abbrev pub for_content : ℕ
for_content = 6

-- What is known when an entry is judged: what was said of the entries before it, a number for each entry; and what the kept ones among them take, a number for
-- each portion: 0 if it is in no kept chain, else one more than how many bytes of the kept content lie in it.
pub record Known : Type 0 where
  pub verdicts : List ℕ
  pub fills : List ℕ

abbrev pub known : List ℕ → List ℕ → Known
known v f = record { verdicts = v; fills = f }

abbrev pub is_kept : List ℕ → ℕ → Bool
is_kept verdicts j = eqb (get_or verdicts j 0) kept

-- ---- name: "Name covers a wrong kind byte and a name already kept"; "an entry is kept exactly when it .. meets every rule of sound by itself": a legal name

-- entry j is kept, and has the kind and the name of entry i (1 and 3 are one kind)
unfoldable pub kept_as : List ℕ → List ℕ → ℕ → ℕ → Bool
kept_as directory verdicts i j =
    is_kept verdicts j && titled directory (eqb (kind (entry directory i)) 2) (name (entry directory i)) j

-- "a name already kept": an earlier kept entry of its kind has it
unfoldable pub name_kept : List ℕ → List ℕ → ℕ → Bool
name_kept directory verdicts i = is_some (found (kept_as directory verdicts i) i)

unfoldable pub wrong_name : List ℕ → List ℕ → ℕ → Bool
wrong_name directory verdicts i = not (kind_ok directory i) || (not (named_ok directory i) || name_kept directory verdicts i)

-- ---- chain: "a walk that meets a bad or free link or a portion twice"

-- How many portions a walk along the links meets from p on, after k others and up to the end mark. It is 0 where the walk meets a number that is no portion's
-- (the mark of a free link is none), and where it has not ended after as many portions as there are: it has then met one twice (`mended`: `chain-once`).
unfoldable pub walked : List ℕ → ℕ → ℕ → ℕ → ℕ
walked links p k zero = 0
walked links p k (suc left) =
    cond (ltb p (length links)) (cond (eqb (get_or links p 0) end_link) (suc k) (walked links (get_or links p 0) (suc k) left)) 0

-- how many portions the chain of an entry has; 0 where it is none
abbrev pub portions : List ℕ → List ℕ → ℕ
portions links e = walked links (first e) 0 (length links)

abbrev pub wrong_chain : List ℕ → List ℕ → Bool
wrong_chain links e = eqb (portions links e) 0

-- ---- size: "a whole chain of the wrong number of portions or a picture over 32768"

unfoldable pub wrong_size : List ℕ → List ℕ → Bool
wrong_size links e = not (eqb (portions links e) (needed (size e))) || (eqb (kind e) 2 && ltb most_picture (size e))

-- ---- shared: "shares .. a portion .. with an earlier kept one"

-- one of the portions ps is in a kept chain
abbrev pub meets : List ℕ → List ℕ → Bool
meets fills [] = false
meets fills (p ∷ ps) = not (eqb (get_or fills p 0) 0) || meets fills ps

unfoldable pub shared : List ℕ → List ℕ → List ℕ → Bool
shared links fills e = meets fills (chain links (first e) (portions links e))

-- ---- content: "Unfinished forms are dropped for content when no earlier reason holds", and so is a form or picture that breaks the rules of what it holds

unfoldable pub wrong_content : Memory → ℕ → Bool
wrong_content m i = is_recording m.directory i || not (content_ok m.store m.links m.directory i)

-- ---- what is said

-- "`kept` or the first reason to drop it"; nothing of an entry of kind 0
unfoldable pub verdict : Memory → Known → ℕ → ℕ
verdict m k i =
    cond (is_empty m.directory i) unsaid
    (cond (wrong_name m.directory k.verdicts i) for_name
    (cond (wrong_chain m.links (entry_of m i)) for_chain
    (cond (wrong_size m.links (entry_of m i)) for_size
    (cond (shared m.links k.fills (entry_of m i)) for_shared
    (cond (wrong_content m i) for_content kept)))))

-- so many bytes noted along the portions ps: 256 in each, and what is left in the last
abbrev pub filled : List ℕ → List ℕ → ℕ → List ℕ
filled fills [] n = fills
filled fills (p ∷ ps) n = filled (set fills p (1 + min bytes_a_portion n)) ps (n - bytes_a_portion)

-- what is known after a verdict on entry i, whose 16 bytes are e: the portions of a kept one are noted
unfoldable pub noted : List ℕ → List ℕ → Known → ℕ → ℕ → Known
noted links e k i v =
    known (set k.verdicts i v) (cond (eqb v kept) (filled k.fills (chain links (first e) (portions links e)) (size e)) k.fills)

-- "in directory order": the first i entries judged, one after another
unfoldable pub judged : Memory → Known → ℕ → Known
judged m k zero = k
judged m k (suc i) = noted m.links (entry_of m i) (judged m k i) i (verdict m (judged m k i) i)

-- nothing is judged yet: at most 512 entries, at most 2,024 portions
unfoldable pub unjudged : Known
unjudged = known (zeros most_entries) (zeros most_portions)

unfoldable pub judged_all : Memory → Known
judged_all m = judged m unjudged (entries m.directory)
