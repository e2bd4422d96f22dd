-- For the code alone: what its functions promise each other.
-- Assumes nothing.
use Rattle.std.specs.Prelude.{ℕ, ◌+◌, ◌≤◌, ◌<◌, ◌≡◌, Bool, cond, ◌&&◌, List, [], ◌∷◌, length, get_or, drop, ltb}
use Rattle.shortest.specs.declared.Set.{Set}
use Rattle.shortest.specs.declared.plan.Lengths.{Lengths}
use Rattle.shortest.specs.declared.steps.Step.{Step}
use Rattle.shortest.specs.Found.{Best, two, leaves_b, best, in_set}

-- the lengths of best writings
pub record Measured (r : Best) (m : Lengths) : Type 0 where
  pub in_b : m.b ≡ length r.in_b
  pub in_c : m.c ≡ length r.in_c
  pub later : m.later ≡ length r.later

-- `leaves_b` and `step`, told by lengths
abbrev pub leaves : ℕ → ℕ → Lengths → Bool
leaves a b m = two a b && ltb (m.later + 1) m.b

abbrev pub lengthened : ℕ → ℕ → Lengths → Lengths
lengthened a b m = record {
  b = cond (leaves a b m) (m.later + 2) (m.b + 1);
  c = cond (two a b) (m.later + 1) (m.b + 2);
  later = m.c;
}

-- 1 where data in set B begins with the change to set C
unfoldable pub mark_of : List ℕ → ℕ
mark_of [] = 0
mark_of (a ∷ s) = cond (leaves_b a (get_or s 0 0) (best s)) 1 0

-- a mark for each byte from place i on
abbrev pub Planned : List ℕ → ℕ → List ℕ → Type 0
Planned s i marks = (j : ℕ) → i ≤ j → j < length s → get_or marks j 0 ≡ mark_of (drop j s)

-- the first symbol of what is left at place i, and what is left after it
pub record Next (s : List ℕ) (i : ℕ) (set : Set) (t : Step) : Type 0 where
  pub symbol : in_set set (best (drop i s)) ≡ t.symbol ∷ in_set t.set (best (drop t.at s))
  pub within : t.at ≤ length s
