-- What FI and GI write to the output.
-- Assumes nothing.
use Rattle.std.specs.Prelude.{ℕ, zero, suc, cond, List, [], ◌∷◌, ◌++◌, take, eqb}
use Prim.Native.Char.{code}
use Rattle.store.specs.Entry.{entries, entry, kind, name_length, name, size}
use Rattle.writing.specs.Writing.{decimal}

-- "A listing line is size, comma, quoted name", and LF
abbrev pub comma_name : List ℕ → List ℕ
comma_name e = code "," ∷ code "\"" ∷ (take (name_length e) (name e) ++ (code "\"" ∷ code "\n" ∷ []))

unfoldable pub listing_line : List ℕ → List ℕ
listing_line e = decimal (size e) ++ comma_name e

-- what entry i adds to the listing of kind k
abbrev pub line_at : List ℕ → ℕ → ℕ → List ℕ
line_at directory k i = cond (eqb (kind (entry directory i)) k) (listing_line (entry directory i)) []

-- "in directory order": those of the entries from i on, n of them, that are of kind k
unfoldable pub listing_from : List ℕ → ℕ → ℕ → ℕ → List ℕ
listing_from directory k i zero = []
listing_from directory k i (suc n) = line_at directory k i ++ listing_from directory k (suc i) n

-- `FI` lists the forms (kind 1), `GI` the pictures (kind 2)
unfoldable pub listing : List ℕ → ℕ → List ℕ
listing directory k = listing_from directory k 0 (entries directory)
