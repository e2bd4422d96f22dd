-- What drawing a form keeps, whatever it draws: all that drawing an item keeps.
-- Assumes nothing.
use Rattle.std.proofs.Common.{Option, Some, None}
use mathlib.Core.Path.{◌≡◌, ◌∙◌}
use mathlib.Core.Bool.{Bool}
use mathlib.Core.List.{List, [], ◌∷◌}
use Prim.Native.Nat.{ℕ}
use lib.ListN.{length}
use Rattle.grammar.specs.declared.Item.{Item}
use Rattle.content_lines.specs.Lines.{lines_of}
use Rattle.dots.specs.declared.Ink.{Ink}
use Rattle.dots.specs.Dots.{drawn, cut}
use Rattle.dots.proofs.Pages.{length-drawn}
use Rattle.outside.proofs.WhiteOutside.{white-outside-drawn}
use Rattle.kept_line.specs.Held.{item_in}
use Rattle.item_drawing.specs.Draw.{Setting}
use Rattle.item_drawing.proofs.Keeping.{TextKeeps, BarsKeep, item-keeps, Long, Clear}
use Rattle.carried.specs.Carried.{starts}
use Rattle.form_drawing.specs.Draw.{Drawing, drawing, draws_stored, draws_line, draws_lines, form_drawn}

module _ (p : List ℕ → Type 0) (g : Setting) (text : TextKeeps p g) (bars : BarsKeep p g)
    (dots : (ink : Ink) (s : ℕ → ℕ → Bool) (page : List ℕ) → p page → p (drawn ink (cut g.width g.length s) page)) where
  stored-keeps : (w : Drawing) (line : List ℕ) (s : Option Item) → p w.page → p (draws_stored g w line s).page
  stored-keeps w line (Some it) h = item-keeps p g text bars dots w.carried.declared w.carried.origin.x w.carried.origin.y line it w.page h
  stored-keeps w line None h = h

  pub lines_keep : (w : Drawing) (ls : List (List ℕ)) → p w.page → p (draws_lines g w ls).page
  unfolding draws_lines draws_line
  lines_keep w [] h = h
  lines_keep w (l ∷ ls) h = lines_keep (draws_line g w l) ls (stored-keeps w l (item_in l) h)

  pub form-keeps : (x y : ℕ) (bytes page : List ℕ) → p page → p (form_drawn g x y bytes page)
  unfolding form_drawn
  form-keeps x y bytes page h = lines_keep (drawing (starts x y) page) (lines_of bytes).whole h

pub length-form : (g : Setting) (n : ℕ) → TextKeeps (Long n) g → BarsKeep (Long n) g → (x y : ℕ) (bytes page : List ℕ) → length page ≡ n → length (form_drawn g x y bytes page) ≡ n
length-form g n text bars = form-keeps (Long n) g text bars (λ ink s page h. length-drawn ink (cut g.width g.length s) page ∙ h)

pub white-form : (g : Setting) → TextKeeps (Clear g) g → BarsKeep (Clear g) g → (x y : ℕ) (bytes page : List ℕ) → Clear g page → Clear g (form_drawn g x y bytes page)
white-form g text bars = form-keeps (Clear g) g text bars (λ ink s page h. white-outside-drawn ink g.width g.length s page h)
