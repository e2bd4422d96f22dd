-- What the definitions say of small pages, computed.
-- Assumes nothing.
use Rattle.std.specs.Prelude.{◌≡◌, refl, [], ◌∷◌}
use Rattle.dots.specs.declared.Ink.TheVariants.{Black}
use Rattle.dots.specs.Dots.{redrawn, drawn, box, cut}
use Rattle.pages.specs.Pages.{white, copied, black_dots}

-- a box of 12 by 2 makes 24 dots of a white page black
black-box : black_dots (drawn Black (cut 608 2 (box 6 0 18 2)) (white 152)) ≡ 24
unfolding drawn redrawn white black_dots
black-box = refl

-- a background over a page that is longer, and over one that is shorter
copied-over : copied (1 ∷ 2 ∷ 3 ∷ []) (7 ∷ 8 ∷ []) ≡ 7 ∷ 8 ∷ 3 ∷ []
unfolding copied
copied-over = refl

copied-in : copied (1 ∷ []) (7 ∷ 8 ∷ []) ≡ 7 ∷ []
unfolding copied
copied-in = refl
