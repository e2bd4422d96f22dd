-- What the definitions say of a text of two letters, computed: LT at 1,0 on a page of two rows, in each mode, and turned once.
-- Assumes nothing.
use Rattle.std.specs.Prelude.{ℕ, ◌*◌, ◌≡◌, refl, Bool, true, false, List, [], ◌∷◌, ◌++◌, get_or, replicate}
use Rattle.kinds.specs.Text.{bytes}
use Rattle.dots.specs.Dots.{drawn, redrawn}
use Rattle.font.specs.Rules.{place_from, rows_of}
use Rattle.font.specs.Samples.{cell, glyph_l, glyph_t, end}
use Rattle.text.specs.Text.{in_mode, text_drawn}

seen : ℕ → Bool → ℕ → List ℕ
seen r reverse rows =
    text_drawn 608 9 1 0 r 1 1 reverse (cell ++ (glyph_l ++ (glyph_t ++ end))) (bytes "LT") (replicate (rows * 76) 0)

-- .X....XXXXX
-- .XXXXX..X..
upright : let p = seen 0 false 2 in get_or p 0 0 ∷ get_or p 1 0 ∷ get_or p 76 0 ∷ get_or p 77 0 ∷ [] ≡ 67 ∷ 224 ∷ 124 ∷ 128 ∷ []
unfolding seen cell glyph_l glyph_t end place_from rows_of in_mode text_drawn drawn redrawn
upright = refl

-- ..XXXX.....
-- ......XX.XX
reversed : let p = seen 0 true 2 in get_or p 0 0 ∷ get_or p 1 0 ∷ get_or p 76 0 ∷ get_or p 77 0 ∷ [] ≡ 60 ∷ 0 ∷ 3 ∷ 96 ∷ []
unfolding seen cell glyph_l glyph_t end place_from rows_of in_mode text_drawn drawn redrawn
reversed = refl

-- .XX, .X., .X., .X., .X., ..X, ..X, .XX, ..X, and the last row, which the length cuts off
once : let p = seen 1 false 10 in
    get_or p 0 0 ∷ get_or p 76 0 ∷ get_or p 152 0 ∷ get_or p 228 0 ∷ get_or p 304 0 ∷ get_or p 380 0 ∷ get_or p 456 0 ∷ get_or p 532 0 ∷ get_or p 608 0 ∷ get_or p 684 0 ∷ []
    ≡ 96 ∷ 64 ∷ 64 ∷ 64 ∷ 64 ∷ 32 ∷ 32 ∷ 96 ∷ 32 ∷ 0 ∷ []
unfolding seen cell glyph_l glyph_t end place_from rows_of in_mode text_drawn drawn redrawn
once = refl
