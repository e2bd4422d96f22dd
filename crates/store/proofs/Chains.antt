-- The chain of an entry: how many portions it has, and the walk to the last of them.
use mathlib.Core.Path.{◌≡◌, sym, ap, ◌∙◌}
use mathlib.Core.List.{List}
use Prim.Native.Nat.{ℕ, suc, ◌-◌, ◌≤◌, ◌<◌}
use native.Mathlib.Omega.{arith}
use lib.ListN.{get_or}
use borrow.Author.Tests.{eq-eqb, ne_eqb}
use Rattle.store.specs.Chain.{needed, walk}
use Rattle.store.specs.Entry.{kind, size, many}

pub record Walking (links : List ℕ) (first n p k : ℕ) : Type 0 where
  pub same : walk links p (k - 1) ≡ walk links first (n - 1)

module _ (links : List ℕ) (first n : ℕ) where
  pub walking_start : (p k : ℕ) → p ≡ first → k ≡ n → Walking links first n p k
  walking_start p k a b = record { same = rw (a, b) }

  pub walking-step : (p k p' : ℕ) → 1 < k → p' ≡ get_or links p 0 → Walking links first n p k → Walking links first n p' (k - 1)
  walking-step p k p' h e w = record {
    same = rw e (ap (walk links p) (let z : suc (k - 1 - 1) ≡ k - 1 = omega arith in z) ∙ w.same);
  }

  pub walking-done : (p k : ℕ) → k ≤ 1 → Walking links first n p k → p ≡ walk links first (n - 1)
  walking-done p k h w = ap (walk links p) (let z : 0 ≡ k - 1 = omega arith in z) ∙ w.same

module _ (e : List ℕ) (k : ℕ) (q : k ≡ kind e) where
  pub many-none : k ≡ 0 → 0 ≡ many e
  unfolding many
  many-none z = rw (eq-eqb (kind e) 0 (sym q ∙ z))

  pub many-some : (s n : ℕ) → (k ≡ 0 → ⊥) → s ≡ size e → n ≡ needed s → n ≡ many e
  unfolding many
  many-some s n z w v = rw (ne_eqb (kind e) 0 (λ x. z (q ∙ x)), ← w) v
