-- Parts of a file, and sums of its bytes. Assumes nothing.
use Rattle.std.specs.Prelude.{ℕ, ◌+◌, ◌*◌, ◌%◌, List, [], ◌∷◌, ◌≡◌, refl, take, drop}

-- n bytes from a place on
abbrev pub part_of : List ℕ → ℕ → ℕ → List ℕ
part_of file at n = take n (drop at file)

-- the greatest prime below 2^32
abbrev pub prime : ℕ
prime = 4294967291

-- a byte more: the sum times 257, and the byte, and 1, modulo that prime
abbrev pub stepped : ℕ → ℕ → ℕ
stepped s b = (s * 257 + b + 1) % prime

unfoldable pub summed : ℕ → List ℕ → ℕ
summed s [] = s
summed s (b ∷ l) = summed (stepped s b) l

abbrev pub sum_on : ℕ → List ℕ → ℕ
sum_on start l = summed (start % prime) l

-- the same bytes in another order have another sum
case-order : sum_on 0 (1 ∷ 2 ∷ []) ∷ sum_on 0 (2 ∷ 1 ∷ []) ∷ [] ≡ 517 ∷ 773 ∷ []
unfolding summed
case-order = refl
