-- The drawing as the definitions read it, computed.
-- Assumes nothing.
use Rattle.std.specs.Prelude.{ℕ, ◌+◌, ◌*◌, ◌≡◌, refl, Bool, true, not, ◌&&◌, List, [], ◌∷◌, eqb}
use Rattle.font.specs.Written.{Glyph}
use Rattle.plainfont.specs.Drawing.{band32, band48, band64, band80, band96, band112, drawing}
use Rattle.plainfont.specs.Plain.{dots, rows_at, glyph_at, glyphs_from}

-- the zero, with its stroke
zero-rows : (glyph_at drawing 16).rows
    ≡ 0b00000000 ∷ 0b00000000 ∷ 0b00111000 ∷ 0b01111100 ∷ 0b01101100 ∷ 0b11001110 ∷ 0b11001110 ∷ 0b11010110
    ∷ 0b11100110 ∷ 0b11100110 ∷ 0b01101100 ∷ 0b01111100 ∷ 0b00111000 ∷ 0b00000000 ∷ 0b00000000 ∷ 0b00000000 ∷ []
unfolding dots rows_at drawing band32 band48 band64 band80 band96 band112
zero-rows = refl

-- the rows of a glyph as one number
unfoldable sum : ℕ → List ℕ → ℕ
sum so [] = so
sum so (row ∷ rows) = sum (so * 256 + row) rows

unfoldable missing : ℕ → List Glyph → Bool
missing n [] = true
missing n (g ∷ gs) = not (eqb n (sum 0 g.rows)) && missing n gs

unfoldable distinct : List Glyph → Bool
distinct [] = true
distinct (g ∷ gs) = missing (sum 0 g.rows) gs && distinct gs

-- no two of the 95 glyphs look alike
apart : distinct (glyphs_from drawing 0 95) ≡ true
unfolding sum missing distinct dots rows_at glyphs_from drawing band32 band48 band64 band80 band96 band112
apart = refl
