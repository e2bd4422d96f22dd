-- What drawing an item keeps, whatever it draws: all that each drawing of dots, of text and of bars keeps. Of text and bars this is asked here, since
-- the crates that draw them say it.
-- Assumes nothing.
use mathlib.Core.Path.{◌≡◌}
use mathlib.Core.Bool.{Bool, true}
use mathlib.Core.List.{List}
use Prim.Native.Nat.{ℕ}
use lib.ListN.{length}
use Rattle.kinds.specs.declared.Kind.{Kind}
use Rattle.kinds.specs.declared.Under.{Under}
use Rattle.declarations.specs.declared.Declared.{Declared}
use Rattle.dots.specs.declared.Ink.{Ink}
use Rattle.dots.specs.Dots.{drawn, cut}
use Rattle.outside.specs.Outside.{white_outside}
use Rattle.text.specs.Text.{text_drawn}
use Rattle.lined.specs.Lined.{bars_with}
use Rattle.grammar.specs.declared.Item.{Item}
use Rattle.grammar.specs.declared.Item.TheVariants.{Origin, Variable, Counter, Text, Bars, Box, Frame, Slant, Picture, Format}
use Rattle.item_drawing.specs.Draw.{Setting, draws_item}

-- what text and bars are to keep
abbrev pub TextKeeps : (List ℕ → Type 0) → Setting → Type 0
TextKeeps p g = (x y r h v : ℕ) (reverse : Bool) (s page : List ℕ) → p page → p (text_drawn g.width g.length x y r h v reverse g.font s page)

abbrev pub BarsKeep : (List ℕ → Type 0) → Setting → Type 0
BarsKeep p g =
    (x y r : ℕ) (kind : Kind) (e f h : ℕ) (under : Under) (s page : List ℕ) → p page → p (bars_with g.width g.length x y r kind e f h under g.font s page)

module _ (p : List ℕ → Type 0) (g : Setting) (text : TextKeeps p g) (bars : BarsKeep p g)
    (dots : (ink : Ink) (s : ℕ → ℕ → Bool) (page : List ℕ) → p page → p (drawn ink (cut g.width g.length s) page)) where
  pub item-keeps : (d : Declared) (x y : ℕ) (line : List ℕ) (it : Item) (page : List ℕ) → p page → p (draws_item g d x y line it page)
  unfolding draws_item
  item-keeps d x y line (Origin o) page h = h
  item-keeps d x y line (Variable v) page h = h
  item-keeps d x y line (Counter c) page h = h
  item-keeps d x y line (Text t) page h = text _ _ _ _ _ _ _ page h
  item-keeps d x y line (Bars b) page h = bars _ _ _ _ _ _ _ _ _ page h
  item-keeps d x y line (Box r) page h = dots _ _ page h
  item-keeps d x y line (Frame f) page h = dots _ _ page h
  item-keeps d x y line (Slant l) page h = dots _ _ page h
  item-keeps d x y line (Picture q) page h = dots _ _ page h
  item-keeps d x y line (Format f) page h = h

-- the page's length
abbrev pub Long : ℕ → List ℕ → Type 0
Long n page = length page ≡ n

-- "no background dot outside width by length"
abbrev pub Clear : Setting → List ℕ → Type 0
Clear g page = white_outside g.width g.length page ≡ true
