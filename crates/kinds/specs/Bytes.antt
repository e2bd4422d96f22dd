-- Ranges of bytes, and what every byte of a list is.
-- Assumes nothing.
use Rattle.std.specs.Prelude.{ℕ, Bool, true, ◌&&◌, List, [], ◌∷◌, leb}
use Prim.Native.Char.{code}

-- from lo to hi
unfoldable pub between : ℕ → ℕ → ℕ → Bool
between lo hi b = leb lo b && leb b hi

-- 0 to 9
abbrev pub is_digit : ℕ → Bool
is_digit b = between (code "0") (code "9") b

-- the test holds of every byte
abbrev pub all_in : (ℕ → Bool) → List ℕ → Bool
all_in q [] = true
all_in q (b ∷ bs) = q b && all_in q bs
