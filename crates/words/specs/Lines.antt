-- Lines of a text: for the code alone, which keeps the words of all answers in one text. Assumes nothing.
use Rattle.std.specs.Prelude.{ℕ, ◌-◌, cond, List, [], ◌∷◌, eqb, take}
use Prim.Native.Char.{code}
use Rattle.classes.specs.Bytes.{run}
use Rattle.classes.specs.declared.Class.TheVariants.{Inside}

-- how many of k lines are still to be passed after a byte
abbrev pub lines_left : ℕ → ℕ → ℕ
lines_left b k = cond (eqb b (code "\n")) (k - 1) k

-- a text from line k on, counted from 0
unfoldable pub from_line : ℕ → List ℕ → List ℕ
from_line k [] = []
from_line k (b ∷ l) = cond (eqb k 0) (b ∷ l) (from_line (lines_left b k) l)

-- line k, without its end
abbrev pub line_of : ℕ → List ℕ → List ℕ
line_of k text = take (run Inside (from_line k text)) (from_line k text)
