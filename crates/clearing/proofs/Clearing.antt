-- Links freed one after another.
-- Assumes nothing.
use mathlib.Core.Path.{◌≡◌, sym, ◌∙◌}
use mathlib.Core.List.{List}
use Prim.Native.Nat.{ℕ, ◌+◌, ◌≤◌, ◌<◌}
use native.Mathlib.Decide.{ℕ_discrete}
use native.Mathlib.Omega.{arith}
use lib.ListN.{length, get_or, set, replicate, length-replicate, get_or-replicate}
use lib.Seq.{ext_get_or, get_or-set_same, get_or-set_other}

module _ (v : ℕ) where
  pub freeing_step : (q : List ℕ) (i : ℕ) → i < length q → ((j : ℕ) → j < i → get_or q j 0 ≡ v) → (j : ℕ) → j < i + 1 → get_or (set q i v) j 0 ≡ v
  freeing_step q i h z j t = at (ℕ_discrete j i)
    where
      at : Dec (j ≡ i) → get_or (set q i v) j 0 ≡ v
      at (yes e) = rw e (get_or-set_same q i v 0 h)
      at (no n) = get_or-set_other q i j v 0 n ∙ z j (omega arith)

  pub freeing-done : (p q : List ℕ) (i : ℕ) → length q ≡ length p → length p ≤ i → ((j : ℕ) → j < i → get_or q j 0 ≡ v) → q ≡ replicate (length p) v
  freeing-done p q i e h z =
      ext_get_or 0 q (replicate (length p) v) (e ∙ sym (length-replicate (length p) v))
      (λ j t. z j (omega arith) ∙ sym (get_or-replicate (length p) j v 0 (omega arith)))
