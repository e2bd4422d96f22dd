-- What the rules say of small pictures, computed.
-- Assumes nothing.
use Rattle.std.specs.Prelude.{ℕ, ◌≡◌, refl, true, false, List, [], ◌∷◌, ◌++◌, replicate}
use Rattle.pcx.specs.Rules.{times, next, given, empty_run, no_empty_run, waiting, headed, filled, legal, decoded, covering, body}

-- a header: 12 dots wide, 3 lines high, lines of 2 bytes
unfoldable pub header : List ℕ
header = 10 ∷ 5 ∷ 1 ∷ 1 ∷ 0 ∷ 0 ∷ 0 ∷ 0 ∷ 11 ∷ 0 ∷ 2 ∷ 0 ∷ (replicate 53 0 ++ (1 ∷ 2 ∷ 0 ∷ replicate 60 0))

-- a run of 3 across the first line's end, a byte that stands for itself, a run of 2
unfoldable pub file : List ℕ
file = header ++ (195 ∷ 0 ∷ 15 ∷ 194 ∷ 255 ∷ [])

gives : decoded file ≡ 0 ∷ 0 ∷ 0 ∷ 15 ∷ 255 ∷ 255 ∷ []
unfolding header file given times next
gives = refl

covered : covering 0 (body file) 3 ≡ 15
unfolding header file covering times next
covered = refl

taken : legal file ≡ true
unfolding header file given times next empty_run no_empty_run waiting headed filled legal
taken = refl

-- proof case (10): "picture byte 128 = 192: 16". The law `case-10` says it of any bytes
refused : legal (header ++ (192 ∷ 195 ∷ 0 ∷ 15 ∷ 194 ∷ 255 ∷ [])) ≡ false
unfolding header given times next empty_run no_empty_run waiting headed filled legal
refused = refl

-- a run code as the last byte
unended : legal (header ++ (195 ∷ 0 ∷ 15 ∷ 194 ∷ 255 ∷ 193 ∷ [])) ≡ false
unfolding header given times next empty_run no_empty_run waiting headed filled legal
unended = refl
