-- Paper 01, "Sound": "no background dot outside width by length".
-- Assumes nothing.
use Rattle.std.specs.Prelude.{ℕ, suc, ◌+◌, ◌*◌, ◌/◌, ◌%◌, Bool, true, not, ◌&&◌, List, [], ◌∷◌, take, ltb, eqb}
use Rattle.dots.specs.Dots.{bytes_a_row, bit_of, byte_of, rows}

-- "no background dot outside width by length": whether a dot lies outside, and whether no dot of a whole row that does so is black
abbrev pub outside : ℕ → ℕ → ℕ → ℕ → Bool
outside width length x y = not (ltb x width && ltb y length)

abbrev pub white_byte : ℕ → ℕ → ℕ → ℕ → Bool
white_byte width length i b = eqb (byte_of (λ k. bit_of b k && outside width length (i % bytes_a_row * 8 + k) (i / bytes_a_row))) 0

unfoldable pub white_from : ℕ → ℕ → ℕ → List ℕ → Bool
white_from width length i [] = true
white_from width length i (b ∷ bs) = white_byte width length i b && white_from width length (suc i) bs

unfoldable pub white_outside : ℕ → ℕ → List ℕ → Bool
unfolding white_from
white_outside width length page = white_from width length 0 (take (rows page * bytes_a_row) page)
