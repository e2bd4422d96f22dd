-- The number of free portions on a sound store: the clause is met by one number alone, that of the links marked free.
-- Assumes nothing.
use mathlib.Core.Path.{◌≡◌, sym, ◌∙◌}
use mathlib.Core.Bool.{Bool, true, false, not}
use mathlib.Core.List.{List}
use mathlib.Core.Logic.{⊎_elim}
use Prim.Native.Nat.{ℕ, ◌+◌}
use native.Mathlib.Omega.{arith}
use lib.ListN.{length}
use lib.Dec.{eqb}
use borrow.Author.Tests.{eq-eqb, ne_eqb, eqb-true}
use Rattle.ground.proofs.Tests.{same?}
use Rattle.store.specs.Chain.{free_count}
use Rattle.free_number.specs.Number.{called_for, free_number}
use Rattle.store_sound.specs.Sound.{store_sound}
use Rattle.store_sound.proofs.Facts.{sound-facts}
use Rattle.store_sound.proofs.Free.{all-portions}

-- two sums with one part in common are equal where the other parts are
eqb-add : (a b c d : ℕ) → b + c ≡ d → eqb (a + c) d ≡ eqb a b
eqb-add a b c d e = ⊎_elim
    (λ (y : a ≡ b). eq-eqb (a + c) d (omega arith) ∙ sym (eq-eqb a b y))
    (λ (n : a ≡ b → ⊥). ne_eqb (a + c) d (λ z. n (omega arith)) ∙ sym (ne_eqb a b n))
    (same? a b)

module _ (st ls dir : List ℕ) (h : store_sound st ls dir ≡ true) (n : ℕ) where
  -- so the clause is decided by a count of the links marked free
  pub number-decided : free_number ls dir n ≡ eqb n (free_count ls)
  unfolding free_number
  number-decided = eqb-add n (free_count ls) (called_for dir) (length ls) (all-portions st ls dir (sound-facts st ls dir h))

  pub number-counted : free_number ls dir n ≡ true → n ≡ free_count ls
  number-counted f = eqb-true n (free_count ls) (sym number-decided ∙ f)

  pub counted-number : n ≡ free_count ls → free_number ls dir n ≡ true
  counted-number e = number-decided ∙ eq-eqb n (free_count ls) e

-- as the code asks, once the store was found to be sound
pub number_ok :
    (st ls dir : List ℕ) (n : ℕ) (a r : Bool) → a ≡ store_sound st ls dir → a ≡ true → r ≡ eqb n (free_count ls) → r ≡ free_number ls dir n
number_ok st ls dir n a r e t f = f ∙ sym (number-decided st ls dir (sym e ∙ t) n)
