-- What the definitions say of the paper's own numbers and of small pages, computed.
-- Assumes nothing.
use Rattle.std.specs.Prelude.{◌+◌, ◌*◌, ◌≡◌, refl, [], ◌∷◌, ◌++◌, true, replicate}
use Rattle.dots.specs.declared.Ink.TheVariants.{Black, White, Inverted}
use Rattle.dots.specs.Cases.{count_below}
use Rattle.dots.specs.Dots.{bytes_a_row, dots_a_row, redrawn, drawn, dot_at, box, cut}

-- eight dots a byte
row-dots : dots_a_row ≡ bytes_a_row * 8
row-dots = refl

-- `LO10,10,100,200`: a row of it has 100 dots, a column 200
pub lo-wide : count_below 608 (λ x. box 10 10 (10 + 100) (10 + 200) x 10) ≡ 100
lo-wide = refl

pub lo-high : count_below 4000 (λ y. box 10 10 (10 + 100) (10 + 200) 10 y) ≡ 200
lo-high = refl

-- two rows; a box from dot 6 to 18 of row 1 and further down, which is cut
cut_below : drawn Black (box 6 1 19 9) (replicate 152 0) ≡ replicate 76 0 ++ (3 ∷ 255 ∷ 224 ∷ replicate 73 0)
unfolding drawn redrawn
cut_below = refl

-- the same, cut at a width of 10; the two bytes after the last whole row stay
cut-beside : drawn Black (cut 10 9 (box 6 1 19 9)) (replicate 154 0) ≡ replicate 76 0 ++ (3 ∷ 192 ∷ replicate 76 0)
unfolding drawn redrawn
cut-beside = refl

inverted : drawn Inverted (box 600 0 700 1) (replicate 76 15) ≡ replicate 75 15 ++ (240 ∷ [])
unfolding drawn redrawn
inverted = refl

whitened : drawn White (box 600 0 700 1) (replicate 76 255) ≡ replicate 75 255 ++ (0 ∷ [])
unfolding drawn redrawn
whitened = refl

last : dot_at (drawn Black (box 607 1 608 2) (replicate 152 0)) 607 1 ≡ true
unfolding drawn redrawn dot_at
last = refl
