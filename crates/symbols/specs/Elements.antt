-- From data to symbols to the widths of their elements: bar, space, bar, .. from the left, in modules where a symbology counts modules,
-- else 1 for narrow and 2 for wide. s is the data's bytes. Past the end of a table stands 0.
-- Assumes nothing.
use Rattle.std.specs.Prelude.{ℕ, ◌+◌, ◌-◌, ◌*◌, ◌%◌, cond, List, [], ◌∷◌, ◌++◌, length, get_or, drop, eqb}
use Prim.Native.Char.{code}
use Rattle.kinds.specs.declared.Kind.{Kind}
use Rattle.kinds.specs.declared.Kind.TheVariants.{Shown, Code39, Interleaved, Ean13, Code128}
use Rattle.kinds.specs.Fit.{fit}
use Rattle.code128.specs.Widths.{digits, each}
use Rattle.code128.specs.Code128.{elements128}
use Rattle.shortest.specs.Found.{our_writing}
use Rattle.symbols.specs.Tables.{rows39, rows25, rows_a, rows_b, rows_set}

-- the digit that a byte is
abbrev pub digit_of : ℕ → ℕ
digit_of b = b - code "0"

-- ---- ISO/IEC 16388, Code 39: "Code 39 gaps are e", so a gap is narrow
-- its table starts at the space
abbrev pub above_space : ℕ → ℕ
above_space b = b - code " "

unfoldable pub nine : ℕ → List ℕ
nine b = digits 9 (get_or rows39 (above_space b) 0)

-- a character and the gap after it
unfoldable pub spaced : ℕ → List ℕ
spaced b = nine b ++ (1 ∷ [])

-- an asterisk, the data, an asterisk with no gap after it
unfoldable pub elements39 : List ℕ → List ℕ
elements39 s = spaced (code "*") ++ (each spaced s ++ nine (code "*"))

-- ---- ISO/IEC 16390, Interleaved 2 of 5
unfoldable pub five : ℕ → List ℕ
five b = digits 5 (get_or rows25 (digit_of b) 0)

-- one from each in turn
unfoldable pub woven : List ℕ → List ℕ → List ℕ
woven [] ys = []
woven (x ∷ xs) [] = []
woven (x ∷ xs) (y ∷ ys) = x ∷ y ∷ woven xs ys

-- of each two digits the first in the bars and the second in the spaces
unfoldable pub pairs : List ℕ → List ℕ
pairs [] = []
pairs (a ∷ []) = []
pairs (a ∷ b ∷ s) = woven (five a) (five b) ++ pairs s

-- four narrow, the digits, then wide, narrow, narrow
unfoldable pub elements25 : List ℕ → List ℕ
elements25 s = digits 4 1111 ++ (pairs s ++ digits 3 211)

-- ---- ISO/IEC 15420, EAN-13
-- weights 3 and 1 in turn, from the last digit
unfoldable pub weights : List ℕ → ℕ
weights [] = 0
weights (b ∷ s) = (3 - 2 * (length s % 2)) * digit_of b + weights s

-- the check digit of any number of digits: what is wanting to the next ten
unfoldable pub check_digit : List ℕ → ℕ
check_digit s = (10 - weights s % 10) % 10

-- the digits with the check digit
unfoldable pub checked : List ℕ → List ℕ
checked s = s ++ ((code "0" + check_digit s) ∷ [])

-- a digit in a set: 1 A, 2 B, 3 C
unfoldable pub pattern_row : ℕ → ℕ → ℕ
pattern_row set b = get_or (cond (eqb set 2) rows_b rows_a) (digit_of b) 0

unfoldable pub pattern : ℕ → ℕ → List ℕ
pattern set b = digits 4 (pattern_row set b)

-- as many digits as there are sets, each in its set
unfoldable pub patterns : List ℕ → List ℕ → List ℕ
patterns [] s = []
patterns (p ∷ ps) [] = []
patterns (p ∷ ps) (b ∷ s) = pattern p b ++ patterns ps s

-- the sets of the six left digits, by the first digit
unfoldable pub sets_of : List ℕ → List ℕ
sets_of s = digits 6 (get_or rows_set (digit_of (get_or s 0 0)) 0)

-- a guard, six digits in A or B, the centre, six digits in C, a guard
unfoldable pub elements_ean : List ℕ → List ℕ
elements_ean s =
    digits 3 111
    ++ (patterns (sets_of s) (drop 1 (checked s))
    ++ (digits 5 11111 ++ (patterns (digits 6 333333) (drop 7 (checked s)) ++ digits 3 111)))

-- ---- the four types; what is written with Code 128's symbols is paper 02's, §9; data that are unfit for the type have no elements, and text that is shown has none
unfoldable pub elements_in : Kind → List ℕ → List ℕ
elements_in Shown s = []
elements_in Code39 s = elements39 s
elements_in Interleaved s = elements25 s
elements_in Ean13 s = elements_ean s
elements_in Code128 s = elements128 (our_writing s)

unfoldable pub elements : Kind → List ℕ → List ℕ
elements kind s = cond (fit kind s) (elements_in kind s) []
