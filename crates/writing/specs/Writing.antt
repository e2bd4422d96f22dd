-- What is written into lent memory: numbers, signs, bytes in capitals or as they are.
-- Assumes nothing.
use Rattle.std.specs.Prelude.{ℕ, zero, suc, ◌+◌, ◌-◌, ◌/◌, ◌%◌, min, Bool, true, false, cond, ◌&&◌, List, [], ◌∷◌, ◌≡◌, length, take, drop, ltb, eqb}
use Prim.Native.Char.{code}
use Rattle.std.proofs.lemmas.List.Edits.{sets}
use Rattle.numbers.specs.Number.{nought}
use Rattle.parts.specs.Names.{capital}

-- the byte of a digit
abbrev pub digit_byte : ℕ → ℕ
digit_byte n = code "0" + n

-- "leading zeros dropped": the digits of n before those of acc, at most f + 1 of them
unfoldable pub digits : ℕ → ℕ → List ℕ → List ℕ
digits zero n acc = digit_byte n ∷ acc
digits (suc f) n acc = cond (ltb n 10) (digit_byte n ∷ acc) (digits f (n / 10) (digit_byte (n % 10) ∷ acc))

abbrev pub decimal : ℕ → List ℕ
decimal n = digits 19 n []

-- "signs written and minus zero as `+0`": a step is counted from -1,000,000,000
unfoldable pub signed : ℕ → List ℕ
signed v = cond (ltb v nought) (code "-" ∷ decimal (nought - v)) (code "+" ∷ decimal (v - nought))

-- what stays as it stands: n bytes of the line from a place
abbrev pub kept : List ℕ → ℕ → ℕ → List ℕ
kept s p n = take n (drop p s)

-- "names in capitals"
unfoldable pub cased : Bool → List ℕ → List ℕ
cased t [] = []
cased t (b ∷ bs) = cond t (capital b) b ∷ cased t bs

-- two lists of the same bytes
unfoldable pub equal : List ℕ → List ℕ → Bool
equal [] [] = true
equal [] (y ∷ ys) = false
equal (x ∷ xs) [] = false
equal (x ∷ xs) (y ∷ ys) = eqb x y && equal xs ys

-- o is out with xs stored from at on, as far as it fits, and r the place after them
pub record Wrote (out : List ℕ) (at : ℕ) (xs : List ℕ) (r : ℕ) (o : List ℕ) : Type 0 where
  pub place : r ≡ min (at + length xs) (length out)
  pub stored : o ≡ sets out at xs
