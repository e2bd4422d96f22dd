-- The tests of a verdict one after another: one that fails is passed over, the first that holds decides.
use mathlib.Core.Path.{◌≡◌, refl, sym}
use mathlib.Core.Bool.{Bool, true, false, ◌||◌, cond, false≢true}
use mathlib.Core.Logic.{◌↔◌}
use Prim.Native.Nat.{ℕ}

-- an answer that is not this test's: the test fails, and the later ones give it
pub later : {B : Type 0} {a b v : ℕ} (t : Bool) → (a ≡ v → ⊥) → (b ≡ v) ↔ B → (cond t a b ≡ v) ↔ ((t ≡ false) × B)
later true n h = (λ e. absurd (n e), λ p. absurd (false≢true (sym p.0)))
later false n h = (λ e. (refl, h.0 e), λ p. h.1 p.1)

-- an answer that no later test gives: the test holds
pub here : {a b : ℕ} (t : Bool) → (b ≡ a → ⊥) → (cond t a b ≡ a) ↔ (t ≡ true)
here true n = (λ e. refl, λ h. refl)
here false n = (λ e. absurd (n e), λ h. absurd (false≢true h))

pub never : {a b v : ℕ} (t : Bool) → (a ≡ v → ⊥) → (b ≡ v → ⊥) → cond t a b ≡ v → ⊥
never true n h = n
never false n h = h

-- ---- a test that is one of two

pub or-none : (a b : Bool) → (a || b) ≡ false → (a ≡ false) × (b ≡ false)
or-none true b e = absurd (false≢true (sym e))
or-none false b e = (refl, e)
