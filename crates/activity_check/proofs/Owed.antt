-- Labels owed, and the active form with them.
use mathlib.Core.Path.{◌≡◌, sym, ◌∙◌}
use mathlib.Core.Bool.{Bool, true, false, not, ◌&&◌, ◌||◌}
use mathlib.Core.List.{List}
use Prim.Native.Nat.{ℕ, ◌+◌}
use lib.Dec.{eqb, leb}
use borrow.Author.Tests.{eq-eqb, ne_eqb}
use Rattle.declarations.specs.declared.Declared.{Declared}
use Rattle.values.specs.Sound.{values_sound}
use Rattle.active_form.specs.Form.{declared_of}
use Rattle.session.specs.declared.Session.{Session}
use Rattle.activity_check.specs.Activity.{active_ok, owed_with, owed_ok, activity_sound}

-- ---- labels owed

pub owed_none : (n : ℕ) (b : Bool) → n ≡ 0 → true ≡ (eqb n 0 || b)
owed_none n b e = rw (eq-eqb n 0 e)

pub owed-recording : (n : ℕ) (t r b : Bool) → (n ≡ 0 → ⊥) → r ≡ t → r ≡ true → false ≡ (eqb n 0 || (not t && b))
owed-recording n t r b z e h = rw (ne_eqb n 0 z, sym e ∙ h)

pub owed-rest : (n : ℕ) (t r a l p a' l' p' b q : Bool) → (n ≡ 0 → ⊥) → r ≡ t → r ≡ false → a' ≡ a → l' ≡ l → p' ≡ p → b ≡ (l' && p') → q ≡ (a' && b)
    → q ≡ (eqb n 0 || (not t && (a && (l && p))))
owed-rest n t r a l p a' l' p' b q z e h ea el ep eb eq = eq ∙ rw (ne_eqb n 0 z, sym e ∙ h, eb, ea, el, ep)

-- ---- the active form and the labels owed

pub activity-is : (s : Session) (directory bytes values : List ℕ) (d : Declared) (a f n o b₁ b₂ r : Bool) → d ≡ declared_of bytes
    → a ≡ active_ok directory s.active → f ≡ values_sound d values s.counters → n ≡ leb (s.owed + s.drawn) 65535
    → o ≡ owed_with d s.owed directory bytes values s.counters
    → b₁ ≡ (n && o) → b₂ ≡ (f && b₁) → r ≡ (a && b₂) → r ≡ activity_sound s directory bytes values
unfolding activity_sound owed_ok
activity-is s directory bytes values d a f n o b₁ b₂ r ed ea ef en eo e₁ e₂ e =
    e ∙ rw (e₂, e₁, ea, ef, en, eo, ed)
