-- Shapes drawn in turn.
-- Assumes nothing.
use mathlib.Core.Path.{◌≡◌, refl, sym, ap, ◌∙◌}
use mathlib.Core.Bool.{Bool, true, false, ◌||◌}
use mathlib.Core.Logic.{◌⊎◌, ⊎_elim}
use mathlib.Core.List.{List}
use Prim.Native.Nat.{ℕ}
use Rattle.dots.specs.declared.Ink.TheVariants.{Black}
use Rattle.dots.specs.Dots.{drawn}
use Rattle.dots.proofs.Pages.{drawn-black, drawn-ext}
use Rattle.dots.proofs.Shapes.{same_test}

-- a test is either of two
pub either-test : (a b c : Bool) → (a ≡ true → c ≡ true) → (b ≡ true → c ≡ true) → (c ≡ true → (a ≡ true) ⊎ (b ≡ true)) → c ≡ (a || b)
either-test true b c f g h = f refl
either-test false b c f g h = same_test c b (λ e. ⊎_elim (λ z. let w : ◌≡◌ {A = Bool} false true = z in cc) (λ z. z) (h e)) g

-- two shapes drawn black in turn
pub then-drawn : (a b c : ℕ → ℕ → Bool) (p q r : List ℕ) → q ≡ drawn Black a p → r ≡ drawn Black b q
    → ((x y : ℕ) → c x y ≡ (a x y || b x y)) → r ≡ drawn Black c p
then-drawn a b c p q r e f j = f ∙ ap (drawn Black b) e ∙ drawn-black a b p ∙ drawn-ext Black _ c p (λ x y s t. sym (j x y))
