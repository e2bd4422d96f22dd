-- Classes of bytes, and how far a run of one class goes.
-- Assumes nothing.
use Rattle.std.specs.Prelude.{ℕ, suc, Bool, cond, ◌||◌, not, List, [], ◌∷◌, take, drop, eqb}
use Prim.Native.Char.{code}
use Rattle.kinds.specs.Bytes.{between}
use Rattle.classes.specs.declared.Class.{Class}
use Rattle.classes.specs.declared.Class.TheVariants.{Digit, Quoted, Inside, Named, Mode, Side}

-- Digit: 0 to 9. Quoted: "Other bytes are 32 to 126" (from the space to `~`), "Quoted text holds no quote" (which stands between `!` and `#`). Inside: what is
-- no LF. Named: "codes 32 to 126 without `*` and quote" (the star stands between `)` and `+`). Mode: "m N or R". Side: "j L, R, C, N or Z"
abbrev pub in_class : Class → ℕ → Bool
in_class Digit b = between (code "0") (code "9") b
in_class Quoted b = between (code " ") (code "!") b || between (code "#") (code "~") b
in_class Inside b = not (eqb b (code "\n"))
in_class Named b = between (code " ") (code "!") b || (between (code "#") (code ")") b || between (code "+") (code "~") b)
in_class Mode b = eqb b (code "N") || eqb b (code "R")
in_class Side b = eqb b (code "L") || (eqb b (code "R") || (eqb b (code "C") || (eqb b (code "N") || eqb b (code "Z"))))

-- how many bytes of the class stand at the front
unfoldable pub run : Class → List ℕ → ℕ
run k [] = 0
run k (b ∷ bs) = cond (in_class k b) (suc (run k bs)) 0

-- the n bytes from a place
abbrev pub part : List ℕ → ℕ → ℕ → List ℕ
part s at n = take n (drop at s)

-- how many bytes of a class stand at a place
abbrev pub run_at : Class → List ℕ → ℕ → ℕ
run_at k s at = run k (drop at s)
