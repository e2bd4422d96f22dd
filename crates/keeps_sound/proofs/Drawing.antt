-- What drawing an item keeps: the background's length, and its white outside width by length.
-- Assumes nothing.
use mathlib.Core.Path.{◌≡◌, refl, ◌∙◌}
use mathlib.Core.Bool.{Bool, true, false}
use mathlib.Core.List.{List}
use Prim.Native.Nat.{ℕ}
use lib.ListN.{length}
use Rattle.dots.specs.declared.Ink.{Ink}
use Rattle.dots.specs.Dots.{drawn, cut}
use Rattle.dots.proofs.Pages.{length-drawn}
use Rattle.outside.proofs.WhiteOutside.{white-outside-drawn}
use Rattle.text.specs.Text.{text_drawn, in_mode, spot_of, glyphs, drawable}
use Rattle.lined.proofs.Keeping.{picked, with-keeps}
use Rattle.declarations.specs.declared.Declared.{Declared}
use Rattle.grammar.specs.declared.Item.{Item}
use Rattle.item_drawing.specs.Draw.{Setting, draws_item}
use Rattle.item_drawing.proofs.Keeping.{TextKeeps, BarsKeep, Long, Clear, item-keeps}

-- ---- whatever every drawing within width and length keeps, text and bars keep

module _ (p : List ℕ → Type 0) (g : Setting) (dots : (ink : Ink) (s : ℕ → ℕ → Bool) (page : List ℕ) → p page → p (drawn ink (cut g.width g.length s) page)) where
  in-mode : (reverse : Bool) (x y r h v n : ℕ) (figure : ℕ → ℕ → Bool) (page : List ℕ) → p page
      → p (in_mode reverse (spot_of g.width g.length x y r h v g.font n) figure page)
  unfolding in_mode
  in-mode false x y r h v n figure page k = dots _ _ page k
  in-mode true x y r h v n figure page k = dots _ _ _ (dots _ _ page k)

  pub text-keeps : TextKeeps p g
  unfolding text_drawn
  text-keeps x y r h v reverse s page k =
      picked p (drawable h v s) _ page (in-mode reverse x y r h v (length s) (glyphs g.font h v s) page k) k

  pub bars-keep : BarsKeep p g
  bars-keep x y r kind e f h under s page k = with-keeps p g.width g.length dots x y r kind e f h under g.font s page k

-- ---- an item

module _ (g : Setting) where
  dots-long : (n : ℕ) (ink : Ink) (s : ℕ → ℕ → Bool) (page : List ℕ) → Long n page → Long n (drawn ink (cut g.width g.length s) page)
  dots-long n ink s page h = length-drawn ink (cut g.width g.length s) page ∙ h

  dots-clear : (ink : Ink) (s : ℕ → ℕ → Bool) (page : List ℕ) → Clear g page → Clear g (drawn ink (cut g.width g.length s) page)
  dots-clear ink s page h = white-outside-drawn ink g.width g.length s page h

  module _ (d : Declared) (x y : ℕ) (line : List ℕ) (it : Item) (page : List ℕ) where
    pub length-item : length (draws_item g d x y line it page) ≡ length page
    length-item =
        let n = length page in
        item-keeps (Long n) g (text-keeps (Long n) g (dots-long n)) (bars-keep (Long n) g (dots-long n)) (dots-long n) d x y line it page refl

    pub white-item : Clear g page → Clear g (draws_item g d x y line it page)
    white-item h = item-keeps (Clear g) g (text-keeps (Clear g) g dots-clear) (bars-keep (Clear g) g dots-clear) dots-clear d x y line it page h
