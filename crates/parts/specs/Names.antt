-- Names in capitals, as a directory entry keeps them.
-- Assumes nothing.
use Rattle.std.specs.Prelude.{ℕ, ◌+◌, ◌-◌, cond, List, [], ◌∷◌, get_or, ltb}
use Prim.Native.Char.{code}
use Rattle.classes.specs.KindsBytes.{between}

-- "case is folded": only a to z
unfoldable pub capital : ℕ → ℕ
capital b = cond (between (code "a") (code "z") b) (b - (code "a" - code "A")) b

-- byte i of the name of n bytes whose quote stands at a place, and 0 after it
unfoldable pub name_byte : List ℕ → ℕ → ℕ → ℕ → ℕ
name_byte s at n i = cond (ltb i n) (capital (get_or s (at + 1 + i) 0)) 0

-- "name in 8 bytes zero-filled"
abbrev pub packed_of : List ℕ → ℕ → ℕ → List ℕ
packed_of s at n =
    name_byte s at n 0 ∷ name_byte s at n 1 ∷ name_byte s at n 2 ∷ name_byte s at n 3
    ∷ name_byte s at n 4
    ∷ name_byte s at n 5
    ∷ name_byte s at n 6
    ∷ name_byte s at n 7
    ∷ []
