-- What bars keep with what stands under them, and that with nothing under them they are what they were.
-- Assumes nothing.
use mathlib.Core.Path.{◌≡◌, refl}
use mathlib.Core.Bool.{Bool, true, false, cond, ◌&&◌}
use mathlib.Core.List.{List}
use Prim.Native.Nat.{ℕ}
use Rattle.dots.specs.declared.Ink.{Ink}
use Rattle.dots.specs.declared.Ink.TheVariants.{Black}
use Rattle.dots.specs.Dots.{drawn, cut}
use Rattle.kinds.specs.declared.Kind.{Kind}
use Rattle.kinds.specs.declared.Place.{Place}
use Rattle.kinds.specs.declared.Under.{Under}
use Rattle.kinds.specs.declared.Under.TheVariants.{Nothing, Line}
use Rattle.kinds.specs.Fit.{fit}
use Rattle.bars.specs.Drawing.{in_limits, bars_drawn}
use Rattle.lined.specs.Lined.{lined_drawn, bars_with}

-- with `N` the page is as before
pub no_line : (W L x y r : ℕ) (kind : Kind) (e f g : ℕ) (font s page : List ℕ)
    → bars_with W L x y r kind e f g Nothing font s page ≡ bars_drawn W L x y r kind e f g s page
unfolding bars_with
no_line W L x y r kind e f g font s page = refl

-- what holds of two pages holds of the one that a test picks
pub picked : (p : List ℕ → Type 0) (b : Bool) (x y : List ℕ) → p x → p y → p (cond b x y)
picked p true x y h k = h
picked p false x y h k = k

-- whatever every black drawing within width and length keeps, bars with a line keep
pub lined-keeps : (p : List ℕ → Type 0) (W L : ℕ) → ((shape : ℕ → ℕ → Bool) (page : List ℕ) → p page → p (drawn Black (cut W L shape) page))
    → (x y r : ℕ) (kind : Kind) (e f g : ℕ) (place : Place) (font s page : List ℕ) → p page → p (lined_drawn W L x y r kind e f g place font s page)
unfolding lined_drawn
lined-keeps p W L dots x y r kind e f g place font s page k = picked p (in_limits e f g && fit kind s) _ page (dots _ page k) k

-- whatever every drawing within width and length keeps, bars keep with whatever stands under them
module _ (p : List ℕ → Type 0) (W L : ℕ) (dots : (ink : Ink) (s : ℕ → ℕ → Bool) (page : List ℕ) → p page → p (drawn ink (cut W L s) page)) where
  pub with-keeps : (x y r : ℕ) (kind : Kind) (e f g : ℕ) (under : Under) (font s page : List ℕ) → p page
      → p (bars_with W L x y r kind e f g under font s page)
  unfolding bars_with bars_drawn
  with-keeps x y r kind e f g Nothing font s page k = picked p (in_limits e f g && fit kind s) _ page (dots Black _ page k) k
  with-keeps x y r kind e f g (Line place) font s page k = lined-keeps p W L (dots Black) x y r kind e f g place font s page k
