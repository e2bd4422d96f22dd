-- A text in a row of fourteen bytes, more than any format fills: zeros behind.
-- Assumes nothing.
use Rattle.std.specs.Prelude.{ℕ, ◌+◌, cond, List, [], ◌∷◌, length, set, replicate, ltb}
use Rattle.std.proofs.lemmas.List.Edits.{sets}
use Rattle.stamps.specs.declared.Text.{Text}

abbrev pub text : List ℕ → ℕ → Text
text b n = record { bytes = b; length = n }

abbrev pub laid : List ℕ → Text
laid l = text (sets (replicate 14 0) 0 l) (length l)

-- ---- one byte more, and all of a list: this serves the code alone

unfoldable pub added : Text → ℕ → Text
added t b = cond (ltb t.length 14) (text (set t.bytes t.length b) (t.length + 1)) t

abbrev pub added_all : Text → List ℕ → Text
added_all t [] = t
added_all t (b ∷ bs) = added_all (added t b) bs
