-- Laws of the lowest number that passes a test.
use mathlib.Core.Path.{◌≡◌, refl, sym, ap, ◌∙◌}
use mathlib.Core.Bool.{Bool, true, false}
use mathlib.Core.Logic.{◌⊎◌, ⊎_elim}
use Prim.Native.Nat.{ℕ, zero, suc, ◌+◌, ◌-◌, ◌≤◌, ◌<◌}
use native.Mathlib.Omega.{arith}
use native.Mathlib.Numerals.{add-one}
use Rattle.ground.proofs.Tests.{either, same?}
use Rattle.cells.specs.Scan.{lowest_from, lowest}

module _ (test : ℕ → Bool) where
  pub from-here : (k left : ℕ) → 0 < left → test k ≡ true → lowest_from test k left ≡ k
  unfolding lowest_from
  from-here k zero h e = absurd (omega arith)
  from-here k (suc n) h e = rw e

  pub from_next : (k left : ℕ) → 0 < left → test k ≡ false → lowest_from test k left ≡ lowest_from test (k + 1) (left - 1)
  unfolding lowest_from
  from_next k zero h e = absurd (omega arith)
  from_next k (suc n) h e = rw (e, add-one k) (ap (lowest_from test (suc k)) (let z : n ≡ suc n - 1 = omega arith in z))

  pub from-most : (k left : ℕ) → lowest_from test k left ≤ k + left
  unfolding lowest_from
  from-most k zero = omega arith
  from-most k (suc n) = ⊎_elim
      (λ (e : test k ≡ true). rw e (omega arith))
      (λ (e : test k ≡ false). rw e (omega (arith, from-most (suc k) n)))
      (either (test k))

  pub from-least : (k left : ℕ) → k ≤ lowest_from test k left
  unfolding lowest_from
  from-least k zero = omega arith
  from-least k (suc n) = ⊎_elim
      (λ (e : test k ≡ true). rw e (omega arith))
      (λ (e : test k ≡ false). rw e (omega (arith, from-least (suc k) n)))
      (either (test k))

  -- what is found passes
  pub from-passes : (k left : ℕ) → lowest_from test k left < k + left → test (lowest_from test k left) ≡ true
  unfolding lowest_from
  from-passes k zero h = absurd (omega arith)
  from-passes k (suc n) h = ⊎_elim
      (λ (e : test k ≡ true). rw e e)
      (λ (e : test k ≡ false). rw e (from-passes (suc k) n (let g : lowest_from test (suc k) n < k + suc n = rw e at h in omega arith)))
      (either (test k))

  -- what passes is not below what is found
  pub from_first : (k left i : ℕ) → k ≤ i → i < k + left → test i ≡ true → lowest_from test k left ≤ i
  unfolding lowest_from
  from_first k zero i a b e = absurd (omega arith)
  from_first k (suc n) i a b e = ⊎_elim
      (λ (y : test k ≡ true). rw y a)
      (λ (y : test k ≡ false). rw y (from_first (suc k) n i (⊎_elim
      (λ (s : i ≡ k). absurd (mathlib.Core.Bool.false≢true (sym y ∙ ap test (sym s) ∙ e)))
      (λ (s : i ≡ k → ⊥). omega arith)
      (same? i k)) (omega arith) e))
      (either (test k))

  pub lowest-passes : (n : ℕ) → lowest test n < n → test (lowest test n) ≡ true
  lowest-passes n h = from-passes 0 n (omega arith)

  pub lowest-first : (n i : ℕ) → i < n → test i ≡ true → lowest test n ≤ i
  lowest-first n i b e = from_first 0 n i (omega arith) (omega arith) e

  pub lowest-most : (n : ℕ) → lowest test n ≤ n
  lowest-most n = omega (arith, from-most 0 n)

  -- below what is found nothing passes
  pub lowest-before : (n i : ℕ) → i < lowest test n → test i ≡ false
  lowest-before n i h = ⊎_elim
      (λ (e : test i ≡ true). absurd (omega (arith, lowest-first n i (omega (arith, lowest-most n)) e)))
      (λ (e : test i ≡ false). e)
      (either (test i))

-- two tests that agree below n find the same
pub lowest-same : (f g : ℕ → Bool) (k n : ℕ) → ((i : ℕ) → i < k + n → f i ≡ g i) → lowest_from f k n ≡ lowest_from g k n
unfolding lowest_from
lowest-same f g k zero h = refl
lowest-same f g k (suc n) h = rw (h k (omega arith), lowest-same f g (suc k) n (λ i b. h i (omega arith)))

-- a pass over the numbers below n, standing at i
pub record Seeking (test : ℕ → Bool) (n i : ℕ) : Type 0 where
  pub few : i ≤ n
  pub same : lowest_from test i (n - i) ≡ lowest test n

module _ (test : ℕ → Bool) (n : ℕ) where
  pub seeking-start : Seeking test n 0
  seeking-start = record { few = omega arith; same = ap (lowest_from test 0) (let z : n - 0 ≡ n = omega arith in z) }

  pub seeking-step : (i : ℕ) → i < n → test i ≡ false → Seeking test n i → Seeking test n (i + 1)
  seeking-step i h e s = record {
    few = omega arith;
    same = ap (lowest_from test (i + 1)) (let z : n - (i + 1) ≡ n - i - 1 = omega arith in z) ∙ sym (from_next test i (n - i) (omega arith) e) ∙ s.same;
  }

  pub seeking-here : (i : ℕ) → i < n → test i ≡ true → Seeking test n i → lowest test n ≡ i
  seeking-here i h e s = sym s.same ∙ from-here test i (n - i) (omega arith) e

  pub seeking-done : (i : ℕ) → n ≤ i → Seeking test n i → lowest test n ≡ n
  unfolding lowest_from
  seeking-done i h s =
      let z : n - i ≡ 0 = omega arith in
      let e : i ≡ n = omega (arith, s.few) in
      sym s.same ∙ ap (lowest_from test i) z ∙ e
