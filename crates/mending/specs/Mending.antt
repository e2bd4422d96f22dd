-- Paper 02, §11: what is left of store, links and directory. "Kept forms and pictures stay byte for byte." "Portions of dropped entries are freed." Unused bytes
-- "are zeroed".
-- Assumes nothing.
use Rattle.std.specs.Prelude.{List, cond, ℕ, ◌-◌, ◌/◌, ◌%◌, length, get_or, eqb, ltb}
use Rattle.store.specs.Chain.{bytes_a_portion, free_link}
use Rattle.store.specs.Entry.{bytes_an_entry}
use Rattle.memory.specs.Memory.{Memory, memory}
use Rattle.store_sound.specs.Shelf.{list_to}
use Rattle.verdicts.specs.Verdicts.{Known, is_kept, judged_all}

-- byte k of the directory: as it was if its entry is kept, else 0
unfoldable pub kept_byte : List ℕ → List ℕ → ℕ → ℕ
kept_byte directory verdicts k = cond (is_kept verdicts (k / bytes_an_entry)) (get_or directory k 0) 0

unfoldable pub kept_directory : List ℕ → List ℕ → List ℕ
kept_directory directory verdicts = list_to (kept_byte directory verdicts) (length directory)

-- the link of portion q: as it was in a kept chain, else free
unfoldable pub kept_link : List ℕ → List ℕ → ℕ → ℕ
kept_link links fills q = cond (eqb (get_or fills q 0) 0) free_link (get_or links q 0)

unfoldable pub kept_links : List ℕ → List ℕ → List ℕ
kept_links links fills = list_to (kept_link links fills) (length links)

-- byte k of the store: as it was if it is one of its portion's bytes of kept content, else 0
unfoldable pub kept_content : List ℕ → List ℕ → ℕ → ℕ
kept_content store fills k = cond (ltb (k % bytes_a_portion) (get_or fills (k / bytes_a_portion) 0 - 1)) (get_or store k 0) 0

unfoldable pub kept_store : List ℕ → List ℕ → List ℕ
kept_store store fills = list_to (kept_content store fills) (length store)

-- all three, by what is known of a memory; and by what is known when all its entries are judged
unfoldable pub mended_by : Known → Memory → Memory
mended_by k m =
    memory (kept_store m.store k.fills) (kept_links m.links k.fills) (kept_directory m.directory k.verdicts)

abbrev pub mended : Memory → Memory
mended m = mended_by (judged_all m) m
