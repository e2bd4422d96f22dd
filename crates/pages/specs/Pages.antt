-- What is done to a whole page: it is whitened, it is copied, and its black dots are counted.
-- Assumes nothing.
use Rattle.std.specs.Prelude.{ℕ, ◌+◌, List, [], ◌∷◌, ◌++◌, length, take, drop, replicate}
use Rattle.ground.specs.Numbers.{one}
use Rattle.dots.specs.Dots.{bit_of}

-- n bytes of white dots. "Both whiten the background, as does `N`, which also ends the active form."
unfoldable pub white : ℕ → List ℕ
white n = replicate n 0

-- "A label call copies the background": the page with the background over it. Where one is longer than the other, bytes beyond the shorter stay
unfoldable pub copied : List ℕ → List ℕ → List ℕ
copied page background = take (length page) background ++ drop (length background) page

-- how many dots of a byte are black, and how many of a page, each of its bytes counted
abbrev pub black_in : ℕ → ℕ
black_in b =
    one (bit_of b 0) + one (bit_of b 1) + one (bit_of b 2) + one (bit_of b 3) + one (bit_of b 4) + one (bit_of b 5) + one (bit_of b 6)
    + one (bit_of b 7)

unfoldable pub black_dots : List ℕ → ℕ
black_dots [] = 0
black_dots (b ∷ bs) = black_in b + black_dots bs
