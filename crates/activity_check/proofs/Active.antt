-- The active form: none, or an entry.
use mathlib.Core.Path.{◌≡◌, ap, ◌∙◌}
use mathlib.Core.Bool.{true}
use mathlib.Core.List.{List}
use Prim.Native.Nat.{ℕ}
use lib.Dec.{eqb}
use borrow.Author.Tests.{eq-eqb, ne_eqb}
use Rattle.store.specs.Entry.{entry, kind}
use Rattle.session.specs.Session.{no_form}
use Rattle.activity_check.specs.Activity.{active_ok}

module _ (directory : List ℕ) (active : ℕ) where
  pub active-none : active ≡ no_form → true ≡ active_ok directory active
  unfolding active_ok
  active-none e = rw (eq-eqb active no_form e)

  pub active-some : (i k : ℕ) → (active ≡ no_form → ⊥) → i ≡ active → k ≡ kind (entry directory i) → eqb k 1 ≡ active_ok directory active
  unfolding active_ok
  active-some i k n e h = ap (λ (m : ℕ). eqb m 1) (h ∙ ap (λ (j : ℕ). kind (entry directory j)) e) ∙ rw (ne_eqb active no_form n)
