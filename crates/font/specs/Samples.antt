-- What the definitions say of small fonts, computed.
-- Assumes nothing.
use Rattle.std.specs.Prelude.{ℕ, ◌≡◌, refl, true, false, List, [], ◌∷◌, ◌++◌}
use Prim.Native.Char.{code}
use Rattle.font.specs.Rules.{headed, rows_clean, glyph, fields_from, legal, place_from, rows_of}

-- the empty font of 8 by 8 dots
empty : legal (1 ∷ 2 ∷ 0 ∷ 8 ∷ 8 ∷ 255 ∷ 0 ∷ 0 ∷ []) ≡ true
unfolding headed rows_clean glyph fields_from legal
empty = refl

-- cells of 5 by 2 dots, with an L and a T
unfoldable pub cell : List ℕ
cell = 1 ∷ 2 ∷ 0 ∷ 5 ∷ 2 ∷ []

unfoldable pub glyph_l : List ℕ
glyph_l = 2 ∷ 3 ∷ 0 ∷ code "L" ∷ 128 ∷ 248 ∷ []

unfoldable pub glyph_t : List ℕ
glyph_t = 2 ∷ 3 ∷ 0 ∷ code "T" ∷ 248 ∷ 32 ∷ []

unfoldable pub end : List ℕ
end = 255 ∷ 0 ∷ 0 ∷ []

two : legal (cell ++ (glyph_l ++ (glyph_t ++ end))) ≡ true
unfolding cell glyph_l glyph_t end headed rows_clean glyph fields_from legal
two = refl

rows : rows_of (cell ++ (glyph_l ++ (glyph_t ++ end))) (code "T") ≡ 248 ∷ 32 ∷ []
unfolding cell glyph_l glyph_t end place_from rows_of
rows = refl

-- "A missing code draws as blank"
missing : rows_of (cell ++ (glyph_l ++ (glyph_t ++ end))) (code "M") ≡ []
unfolding cell glyph_l glyph_t end place_from rows_of
missing = refl

-- "codes strictly rise"
falling : legal (cell ++ (glyph_t ++ (glyph_l ++ end))) ≡ false
unfolding cell glyph_l glyph_t end headed rows_clean glyph fields_from legal
falling = refl

twice : legal (cell ++ (glyph_l ++ (glyph_l ++ end))) ≡ false
unfolding cell glyph_l end headed rows_clean glyph fields_from legal
twice = refl

-- "spare bits zero"
spare : legal (cell ++ (2 ∷ 3 ∷ 0 ∷ code "L" ∷ 128 ∷ 252 ∷ end)) ≡ false
unfolding cell end headed rows_clean glyph fields_from legal
spare = refl

-- "Tag 1 first, once"
cell_twice : legal (cell ++ (cell ++ end)) ≡ false
unfolding cell end headed rows_clean glyph fields_from legal
cell_twice = refl

-- "Last tag 255, length 0, then nothing"
more : legal (cell ++ (glyph_l ++ (end ++ (0 ∷ [])))) ≡ false
unfolding cell glyph_l end headed rows_clean glyph fields_from legal
more = refl

unended : legal (cell ++ glyph_l) ≡ false
unfolding cell glyph_l headed rows_clean glyph fields_from legal
unended = refl
