-- What the definition says of a small picture, computed.
-- Assumes nothing.
use Rattle.std.specs.Prelude.{ℕ, ◌≡◌, refl, List, [], ◌∷◌, replicate, get_or}
use Rattle.dots.specs.declared.Ink.TheVariants.{Black}
use Rattle.dots.specs.Dots.{drawn, redrawn, cut}
use Rattle.pcx.specs.Rules.{times, next, given, empty_run, no_empty_run, waiting, headed, filled, legal}
use Rattle.pcx.specs.Cases.{header, file}
use Rattle.picture.specs.Shape.{pictured}

-- at 4, 1, cut at column 14: two lines of twelve black dots, of which the second starts with a run of the first, and a white one
first : List ℕ
first = let page = drawn Black (cut 14 4 (pictured file 4 1)) (replicate 304 0) in
    get_or page 0 0 ∷ get_or page 76 0 ∷ get_or page 77 0 ∷ get_or page 152 0 ∷ get_or page 153 0 ∷ get_or page 228 0 ∷ []

shown : first ≡ 0 ∷ 15 ∷ 252 ∷ 15 ∷ 252 ∷ 0 ∷ []
unfolding first header file given times next empty_run no_empty_run waiting headed filled legal drawn redrawn pictured
shown = refl
