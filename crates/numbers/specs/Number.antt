-- Numbers in a line, at a place: the value and the place after it, or Err and the place at fault where there is none.
-- Assumes nothing.
use Rattle.std.specs.Prelude.{ℕ, ◌+◌, ◌-◌, ◌*◌, ◌<◌, cond, ◌&&◌, List, [], ◌∷◌, get_or, leb, eqb, Result, Ok, Err}
use Prim.Native.Char.{code}
use Rattle.classes.specs.KindsBytes.{between}
use Rattle.classes.specs.Bytes.{part, run_at}
use Rattle.classes.specs.declared.Class.TheVariants.{Digit}
use Rattle.fields.specs.Field.{pointed}

-- a digit's number, and 0 of another byte
abbrev pub digit_of : ℕ → ℕ
digit_of b = cond (between (code "0") (code "9") b) (b - code "0") 0

-- the number that digits write, after v
unfoldable pub value_from : ℕ → List ℕ → ℕ
value_from v [] = v
value_from v (d ∷ ds) = value_from (v * 10 + digit_of d) ds

-- "Numbers are 1 to 9 digits, leading zeros allowed": as many digits as there are. Of none, or of more than nine, the first byte is at fault
unfoldable pub number_at : List ℕ → ℕ → Result (ℕ × ℕ) ℕ
number_at s at =
    cond (leb 1 (run_at Digit s at) && leb (run_at Digit s at) 9)
    (Ok (value_from 0 (part s at (run_at Digit s at)), at + run_at Digit s at))
    (Err at)

-- A number "with or without sign". Its value is counted from -1,000,000,000, so that minus zero is plus zero
abbrev pub nought : ℕ
nought = 1000000000

abbrev pub plus : Result (ℕ × ℕ) ℕ → Result (ℕ × ℕ) ℕ
plus (Ok (v, e)) = Ok (nought + v, e)
plus (Err p) = Err p

abbrev pub minus : Result (ℕ × ℕ) ℕ → Result (ℕ × ℕ) ℕ
minus (Ok (v, e)) = Ok (nought - v, e)
minus (Err p) = Err p

-- this serves the code alone: what a number's value is below
abbrev pub Small : Result (ℕ × ℕ) ℕ → Type 0
Small (Ok (v, e)) = v < nought
Small (Err p) = Unit {0}

-- a number is one piece with its sign at `at`: where no number stands behind the sign, the sign is at fault, or the LF
abbrev pub behind_sign : List ℕ → ℕ → Result (ℕ × ℕ) ℕ → Result (ℕ × ℕ) ℕ
behind_sign s at (Ok (v, e)) = Ok (v, e)
behind_sign s at (Err p) = Err (pointed s at p)

unfoldable pub signed_at : List ℕ → ℕ → Result (ℕ × ℕ) ℕ
signed_at s at =
    cond (eqb (get_or s at 0) (code "+")) (plus (behind_sign s at (number_at s (at + 1))))
    (cond (eqb (get_or s at 0) (code "-")) (minus (behind_sign s at (number_at s (at + 1))))
    (plus (number_at s at)))
