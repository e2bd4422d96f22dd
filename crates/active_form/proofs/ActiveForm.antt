-- The active form: none, or an entry.
-- Assumes nothing.
use mathlib.Core.Path.{◌≡◌, refl, sym, ap, ◌∙◌}
use mathlib.Core.Bool.{Bool, true, false, cond}
use mathlib.Core.List.{List, []}
use Prim.Native.Nat.{ℕ}
use borrow.Author.Tests.{eq-eqb, ne_eqb}
use lib.Dec.{eqb}
use Rattle.contents.specs.declared.Cursor.{Cursor}
use Rattle.contents.specs.Content.{bytes_from, content_of, content, cursor, ahead, cursor_at}
use Rattle.declarations.specs.declared.Declared.{Declared}
use Rattle.declarations.specs.Declarations.{nothing}
use Rattle.forms.specs.Form.{declared_of, pictures_stored}
use Rattle.form_drawing.specs.ItemDrawingDraw.{Setting}
use Rattle.form_drawing.specs.Draw.{form_drawn}
use Rattle.active_form.specs.Active.{no_form, active_bytes, active_cursor}
use Rattle.forms.proofs.Growing.{declared_of-empty, pictures_stored-empty}

module _ (store links directory : List ℕ) (active : ℕ) where
  bytes-none : active ≡ no_form → active_bytes store links directory active ≡ []
  unfolding active_bytes
  bytes-none e = rw (eq-eqb active no_form e)

  bytes-some : (i : ℕ) → (active ≡ no_form → ⊥) → i ≡ active → content store links directory i ≡ active_bytes store links directory active
  unfolding active_bytes
  bytes-some i n e = ap (λ (j : ℕ). content store links directory j) e ∙ rw (ne_eqb active no_form n)

  pub declared-none : (r : Declared) → active ≡ no_form → r ≡ nothing → r ≡ declared_of (active_bytes store links directory active)
  declared-none r e h = h ∙ sym (ap declared_of (bytes-none e) ∙ declared_of-empty)

  pub declared-some : (i : ℕ) (r : Declared) → (active ≡ no_form → ⊥) → i ≡ active → r ≡ declared_of (content store links directory i)
      → r ≡ declared_of (active_bytes store links directory active)
  declared-some i r n e h = h ∙ ap declared_of (bytes-some i n e)

  pub pictures-none : active ≡ no_form → true ≡ pictures_stored directory (active_bytes store links directory active)
  pictures-none e = sym (ap (pictures_stored directory) (bytes-none e) ∙ pictures_stored-empty directory)

  pub pictures-some : (i : ℕ) (r : Bool) → (active ≡ no_form → ⊥) → i ≡ active → r ≡ pictures_stored directory (content store links directory i)
      → r ≡ pictures_stored directory (active_bytes store links directory active)
  pictures-some i r n e h = h ∙ ap (pictures_stored directory) (bytes-some i n e)

-- what is ahead of the reader that the code starts with
reader-ahead : (store links directory : List ℕ) (active : ℕ) (none : Bool) → ahead store links (cond none (cursor 0 0 0) (cursor_at links directory active)) ≡ cond none [] (content store links directory active)
unfolding bytes_from content_of
reader-ahead store links directory active true = refl
reader-ahead store links directory active false = refl

pub active-drawn : (g : Setting) (active x y : ℕ) (page p : List ℕ) (c : Cursor) → c ≡ active_cursor g.links g.directory active
    → p ≡ form_drawn g x y (ahead g.store g.links c) page → p ≡ form_drawn g x y (active_bytes g.store g.links g.directory active) page
unfolding active_bytes
active-drawn g active x y page p c e h =
    h
    ∙ ap (λ (k : Cursor). form_drawn g x y (ahead g.store g.links k) page) e
    ∙ ap (λ (k : List ℕ). form_drawn g x y k page) (reader-ahead g.store g.links g.directory active (eqb active no_form))
