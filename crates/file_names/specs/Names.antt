-- Names of files. Assumes nothing.
use Rattle.std.specs.Prelude.{ℕ, suc, cond, List, [], ◌∷◌, ◌++◌, eqb, ltb}
use Prim.Native.Char.{code}
use Rattle.kinds.specs.Text.{bytes}
use Rattle.writing.specs.Writing.{decimal}

-- zeros that make four digits of a number
unfoldable pub zeros_of : ℕ → List ℕ
zeros_of n = cond (ltb n 10) (bytes "000") (cond (ltb n 100) (bytes "00") (cond (ltb n 1000) (bytes "0") []))

-- `PREFIX-0001.pbm`
unfoldable pub name_of : List ℕ → ℕ → List ℕ
name_of prefix n = prefix ++ (bytes "-" ++ (zeros_of n ++ (decimal n ++ bytes ".pbm")))

-- the place after a byte, if it is a `/`; else the place so far
abbrev pub after_slash : ℕ → ℕ → ℕ → ℕ
after_slash b next best = cond (eqb b (code "/")) next best

-- the place after the last `/`, from a place on, where the last so far is known
unfoldable pub last_slash : ℕ → ℕ → List ℕ → ℕ
last_slash at best [] = best
last_slash at best (b ∷ l) = last_slash (suc at) (after_slash b (suc at) best) l
