-- Paper 02, §11: "one line for each entry not of kind 0, in directory order: its number from 0, a space, and `kept` or the first reason to drop it: `name`, `chain`,
-- `size`, `shared` or `content`".
-- Assumes nothing.
use Rattle.std.specs.Prelude.{List, [], ◌∷◌, ◌++◌, cond, ℕ, zero, suc, get_or, eqb}
use Prim.Native.Char.{code}
use Rattle.kinds.specs.Text.{bytes}
use Rattle.store.specs.Entry.{most_entries}
use Rattle.memory.specs.Memory.{Memory}
use Rattle.writing.specs.Writing.{decimal}
use Rattle.verdicts.specs.Verdicts.{unsaid, kept, for_name, for_chain, for_size, for_shared, judged_all}

-- "`kept` or the first reason to drop it: `name`, `chain`, `size`, `shared` or `content`"
unfoldable pub word : ℕ → List ℕ
word v =
    cond (eqb v kept) (bytes "kept")
    (cond (eqb v for_name) (bytes "name")
    (cond (eqb v for_chain) (bytes "chain")
    (cond (eqb v for_size) (bytes "size")
    (cond (eqb v for_shared) (bytes "shared") (bytes "content")))))

-- "its number from 0, a space, and" the word, then LF
unfoldable pub verdict_line : ℕ → ℕ → List ℕ
verdict_line i v = decimal i ++ (code " " ∷ (word v ++ (code "\n" ∷ [])))

-- "one line for each entry not of kind 0"
unfoldable pub line_at : List ℕ → ℕ → List ℕ
line_at verdicts i = cond (eqb (get_or verdicts i 0) unsaid) [] (verdict_line i (get_or verdicts i 0))

-- "in directory order": the lines of the first n entries, and of all, which are at most 512
unfoldable pub lines_to : List ℕ → ℕ → List ℕ
lines_to verdicts zero = []
lines_to verdicts (suc n) = lines_to verdicts n ++ line_at verdicts n

abbrev pub verdict_list : List ℕ → List ℕ
verdict_list verdicts = lines_to verdicts most_entries

-- the list of a memory whose entries are judged
abbrev pub listed : Memory → List ℕ
listed m = verdict_list (judged_all m).verdicts
