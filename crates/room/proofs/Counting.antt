-- How many entries are empty, counted one after another; there is an empty entry exactly where the count is not 0.
-- Assumes nothing.
use mathlib.Core.Path.{◌≡◌, refl, sym, ap, ◌∙◌}
use mathlib.Core.List.{List}
use mathlib.Core.Bool.{Bool, true, false}
use mathlib.Core.Logic.{⊎_elim}
use Prim.Native.Nat.{ℕ, ◌+◌, ◌≤◌, ◌<◌}
use native.Mathlib.Omega.{arith}
use native.Mathlib.Numerals.{add-one}
use lib.Dec.{ltb}
use borrow.Author.Tests.{eq-eqb, ne_eqb, lt-ltb, le-ltb}
use Rattle.ground.specs.Numbers.{one}
use Rattle.ground.proofs.Tests.{same?}
use Rattle.cells.specs.Count.{sum_to}
use Rattle.cells.proofs.Counts.{sum-has, sum-none}
use Rattle.cells.proofs.Scan.{lowest-passes, lowest-before, lowest-most}
use Rattle.store.specs.Entry.{entries, entry, kind}
use Rattle.finding.specs.Find.{is_empty}
use Rattle.room.specs.Room.{lowest_entry, empty_count, has_entry}

-- n of the entries before i are empty
pub record Counting (directory : List ℕ) (n i : ℕ) : Type 0 where
  pub few : i ≤ entries directory
  pub within : n ≤ i
  pub so_far : n ≡ sum_to (λ j. one (is_empty directory j)) i

module _ (directory : List ℕ) where
  pub counting-start : Counting directory 0 0
  counting-start = record { few = omega arith; within = omega arith; so_far = refl }

  counting-next : (n m i : ℕ) (b : Bool) → m ≡ n + one b → i < entries directory → is_empty directory i ≡ b → Counting directory n i → Counting directory m (i + 1)
  counting-next n m i b q h e c = record {
    few = omega arith;
    within = omega (arith, q, c.within, one-most b);
    so_far = rw (q, add-one i, e, ← c.so_far);
  }
    where
      one-most : (b : Bool) → one b ≤ 1
      one-most true = omega arith
      one-most false = omega arith

  pub counting-empty : (n m i : ℕ) → m ≡ n + 1 → i < entries directory → kind (entry directory i) ≡ 0 → Counting directory n i → Counting directory m (i + 1)
  counting-empty n m i q h z c = counting-next n m i true q h (eq-eqb (kind (entry directory i)) 0 z) c

  pub counting-passed : (n m i : ℕ) → m ≡ n → i < entries directory → (kind (entry directory i) ≡ 0 → ⊥) → Counting directory n i → Counting directory m (i + 1)
  counting-passed n m i q h z c = counting-next n m i false (omega (arith, q)) h (ne_eqb (kind (entry directory i)) 0 z) c

  pub counting-done : (n i : ℕ) → entries directory ≤ i → Counting directory n i → n ≡ empty_count directory
  counting-done n i h c = let e : i ≡ entries directory = omega (arith, c.few) in c.so_far ∙ ap (sum_to (λ j. one (is_empty directory j))) e

  -- "no empty entry": none is left
  pub entry-counted : has_entry directory ≡ ltb 0 (empty_count directory)
  entry-counted = ⊎_elim
      (λ (e : lowest_entry directory ≡ entries directory).
      let none : empty_count directory ≡ 0 =
      sum-none (λ (j : ℕ). one (is_empty directory j)) (entries directory)
      (λ i b. ap one (lowest-before (is_empty directory) (entries directory) i (omega (arith, e, b)))) in
      le-ltb (lowest_entry directory) (entries directory) (omega (arith, e)) ∙ sym (le-ltb 0 (empty_count directory) (omega (arith, none))))
      (λ (n : lowest_entry directory ≡ entries directory → ⊥).
      let b : lowest_entry directory < entries directory = omega (arith, n, lowest-most (is_empty directory) (entries directory)) in
      let counts : one (is_empty directory (lowest_entry directory)) ≡ 1 = ap one (lowest-passes (is_empty directory) (entries directory) b) in
      let some = sum-has (λ (j : ℕ). one (is_empty directory j)) (lowest_entry directory) (entries directory) b in
      lt-ltb (lowest_entry directory) (entries directory) b ∙ sym (lt-ltb 0 (empty_count directory) (omega (arith, some, counts))))
      (same? (lowest_entry directory) (entries directory))
