-- What the definitions say of a small figure, computed: an L of two by three dots with the corner of its turned box at (9, 1), in each turn.
-- Assumes nothing.
use Rattle.std.specs.Prelude.{ℕ, ◌*◌, ◌≡◌, refl, List, [], ◌∷◌, replicate, get_or}
use Rattle.dots.specs.declared.Ink.TheVariants.{Black}
use Rattle.dots.specs.Dots.{drawn, redrawn}
use Rattle.figures.specs.Figures.{placed, scaled, bitmap}

-- the second byte of each of the first five rows
seen : ℕ → ℕ → List ℕ
seen r hm =
    let p = drawn Black (placed r (2 * hm) 3 9 1 (scaled 2 3 hm 1 (bitmap (128 ∷ 128 ∷ 192 ∷ []) 1))) (replicate 380 0) in
    get_or p 1 0 ∷ get_or p 77 0 ∷ get_or p 153 0 ∷ get_or p 229 0 ∷ get_or p 305 0 ∷ []

-- X.
-- X.
-- XX
upright : seen 0 1 ≡ 0 ∷ 64 ∷ 64 ∷ 96 ∷ 0 ∷ []
unfolding seen drawn redrawn
upright = refl

-- XXX
-- X..
once : seen 1 1 ≡ 0 ∷ 112 ∷ 64 ∷ 0 ∷ 0 ∷ []
unfolding seen drawn redrawn
once = refl

-- XX
-- .X
-- .X
twice : seen 2 1 ≡ 0 ∷ 96 ∷ 32 ∷ 32 ∷ 0 ∷ []
unfolding seen drawn redrawn
twice = refl

-- ..X
-- XXX
thrice : seen 3 1 ≡ 0 ∷ 16 ∷ 112 ∷ 0 ∷ 0 ∷ []
unfolding seen drawn redrawn
thrice = refl

four-times : seen 4 1 ≡ seen 0 1
unfolding seen drawn redrawn
four-times = refl

-- twice as wide
wide : seen 0 2 ≡ 0 ∷ 96 ∷ 96 ∷ 120 ∷ 0 ∷ []
unfolding seen drawn redrawn
wide = refl
