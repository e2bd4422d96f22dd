-- "Values are stored as padded. L, R, C values are padded with spaces to m (C puts the smaller half left); N is unpadded; Z is 1 to m digits,
-- zeros put in front. Others take 0 to m bytes, each 32 to 126 and no quote."
-- Assumes nothing.
use Prim.Native.Char.{code}
use Rattle.std.specs.Prelude.{ℕ, ◌-◌, ◌/◌, Bool, cond, ◌&&◌, ◌||◌, List, ◌++◌, length, replicate, eqb, leb}
use Rattle.kinds.specs.Bytes.{between, is_digit, all_in}

-- ---- what may be entered

-- "each 32 to 126 and no quote"
abbrev pub legal : ℕ → Bool
legal b = between 32 33 b || between 35 126 b

-- "Z is 1 to m digits, zeros put in front. Others take 0 to m bytes, each 32 to 126 and no quote."
unfoldable pub enters : ℕ → ℕ → List ℕ → Bool
enters side m text =
    cond (eqb side (code "Z")) (leb 1 (length text) && (leb (length text) m && all_in is_digit text))
    (leb (length text) m && all_in legal text)

-- ---- padding

-- Z: "zeros put in front"; all others: "padded with spaces"
abbrev pub filler : ℕ → ℕ
filler side = cond (eqb side (code "Z")) (code "0") (code " ")

-- of so many places left over, those in front: all for R and Z, the smaller half for C, none for L and N
abbrev pub before : ℕ → ℕ → ℕ
before side gap = cond (eqb side (code "R")) gap (cond (eqb side (code "Z")) gap (cond (eqb side (code "C")) (gap / 2) 0))

-- those behind: "N is unpadded", else what is left
abbrev pub behind : ℕ → ℕ → ℕ
behind side gap = cond (eqb side (code "N")) 0 (gap - before side gap)

-- "Values are stored as padded"
unfoldable pub padded : ℕ → ℕ → List ℕ → List ℕ
padded side m text =
    replicate (before side (m - length text)) (filler side) ++ (text ++ replicate (behind side (m - length text)) (filler side))

-- ---- what fits

-- a stored value fits: L, R and C exactly m legal bytes, N 0 to m legal bytes, Z exactly m digits
unfoldable pub fits : ℕ → ℕ → List ℕ → Bool
fits side m v =
    cond (eqb side (code "N")) (leb (length v) m && all_in legal v)
    (cond (eqb side (code "Z")) (eqb (length v) m && all_in is_digit v)
    (eqb (length v) m && all_in legal v))
