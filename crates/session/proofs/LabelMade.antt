-- A label drawn: from the steps of the method to its definition, and to a page of the background's length.
-- Assumes nothing.
use mathlib.Core.Path.{◌≡◌, sym, ap, ◌∙◌}
use mathlib.Core.List.{List}
use Prim.Native.Nat.{ℕ}
use lib.ListN.{length}
use Rattle.pages.specs.Pages.{copied}
use Rattle.pages.proofs.WholePages.{copied-same}
use Rattle.declarations.specs.declared.Declared.{Declared}
use Rattle.item_drawing.specs.Draw.{setting}
use Rattle.active_form.specs.Draw.{form_drawn}
use Rattle.session.specs.declared.Session.{Session}
use Rattle.session.specs.Session.{moved, counted}
use Rattle.lent.specs.Lent.{World}
use Rattle.session.specs.Active.{active_of, active_declared}
use Rattle.session.specs.Label.{turned_by, label_on, label_page, label_session, printed, printed_on}

module _ (font : List ℕ) (s : Session) (w : World) (page : List ℕ) where
  pub label-made :
      (p q r : List ℕ) (d : Declared) (m t : Session) → p ≡ copied page w.background →
      q ≡ form_drawn (setting font w.store w.links w.directory w.values s.counters s.clock s.width s.length) s.x s.y (active_of w s) p →
      r ≡ turned_by s.turn s.width s.length q → d ≡ active_declared w s → m ≡ moved s d → t ≡ counted m → printed t r ≡ printed_on font s w page
  unfolding printed_on label_session
  label-made p q r d m t a b c e f g = (λ i. printed ((g ∙ ap counted (f ∙ ap (moved s) e)) i) ((c ∙ ap (turned_by s.turn s.width s.length) (b ∙ ap (form_drawn (setting font w.store w.links w.directory w.values s.counters s.clock s.width s.length) s.x s.y (active_of w s)) a)) i))

  -- "copies the background": on a page of its length the label is `label_page`
  pub label-whole : length page ≡ length w.background → printed_on font s w page ≡ printed (label_session s w) (label_page font s w)
  unfolding printed_on label_page
  label-whole e = ap (λ (p : List ℕ). printed (label_session s w) (label_on font s w p)) (copied-same page w.background (sym e))
