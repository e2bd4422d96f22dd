-- What a search answers, and the chains that search.
use mathlib.Core.List.{List}
use lib.ListN.{length, get_or}
use denote.Ref.{Bor}
use denote.Param.Members.{Mut}
use Rattle.std.specs.Fn.{Called, CalledAt}
use Rattle.std.specs.Bool.{MatchBool}
use Rattle.std.proofs.lemmas.List.FromFn.{length-range_with_len}
use Rattle.cells.proofs.Passing.{in-range}
use Rattle.std.specs.Iterator.{YieldsThen}
use Rattle.std.proofs.iter.Yields.{nat_range_steps}
use Rattle.std.proofs.lemmas.Iterator.{first_from_Range, cases_from_any, YieldsList-from_range}
use Rattle.std.specs.List.{FoldsTo, AllWithin, range_with_len, HoldsAt}
use mathlib.Core.Path.{◌≡◌, refl, sym, ap, ◌∙◌, subst}
use mathlib.Core.Bool.{Bool, true, false, false≢true}
use mathlib.Core.Logic.{⊎_elim}
use Rattle.ground.proofs.Tests.{same?}
use Prim.Native.Nat.{ℕ, ◌≤◌, ◌<◌, ◌-◌}
use native.Mathlib.Omega.{arith}
use lib.Dec.{ltb}
use borrow.Author.Tests.{lt-ltb, le-ltb, ltb-true}
use Rattle.cells.specs.Scan.{lowest}
use Rattle.cells.proofs.Scan.{Seeking, seeking-here, seeking-done, lowest-most, lowest-passes, lowest-first}
use Rattle.std.specs.Prelude.{⊤, unwrap_or, MatchOption, None, Option, Some, is_some}
use Rattle.finding.specs.Find.{found}

lowest-none : (test : ℕ → Bool) (n : ℕ) → ((k : ℕ) → k < n → test k ≡ false) → lowest test n ≡ n
lowest-none test n none = ⊎_elim
    (λ (e : lowest test n ≡ n). e)
    (λ (e : lowest test n ≡ n → ⊥).
    let b : lowest test n < n = omega (arith, e, lowest-most test n) in
    absurd (false≢true (sym (none (lowest test n) b) ∙ lowest-passes test n b)))
    (same? (lowest test n) n)

lowest-at : (test : ℕ → Bool) (n i : ℕ) → i < n → test i ≡ true → ((k : ℕ) → k < i → test k ≡ false) → lowest test n ≡ i
lowest-at test n i b e none = ⊎_elim
    (λ (s : lowest test n ≡ i). s)
    (λ (s : lowest test n ≡ i → ⊥).
    let h : lowest test n < i = omega (arith, s, lowest-first test n i b e) in
    absurd (false≢true (sym (none (lowest test n) h) ∙ lowest-passes test n (omega (arith, h, b)))))
    (same? (lowest test n) i)

module _ (test : ℕ → Bool) (n : ℕ) where
  pub found_at : lowest test n < n → found test n ≡ Some (lowest test n)
  unfolding found
  found_at h = rw (lt-ltb (lowest test n) n h)

  pub found_nothing : lowest test n ≡ n → found test n ≡ None
  unfolding found
  found_nothing e = rw (le-ltb (lowest test n) n (omega arith))

  pub found-is : (i : ℕ) → lowest test n ≡ i → i < n → Some i ≡ found test n
  found-is i e h = ap Some (sym e) ∙ sym (found_at (omega arith))

  -- a pass that stands at i
  pub seek-here : (i : ℕ) → i < n → test i ≡ true → Seeking test n i → Some i ≡ found test n
  seek-here i h e s = found-is i (seeking-here test n i h e s) h

  pub seek-none : (i : ℕ) → n ≤ i → Seeking test n i → None ≡ found test n
  seek-none i h s = sym (found_nothing (seeking-done test n i h s))

  -- what an answer says
  pub at-says : (i : ℕ) → found test n ≡ Some i → (lowest test n ≡ i) × (i < n)
  at-says i e = go (ltb (lowest test n) n) refl e
    where
      go : (b : Bool) → ltb (lowest test n) n ≡ b → found test n ≡ Some i → (lowest test n ≡ i) × (i < n)
      go true h e =
          let k : Some (lowest test n) ≡ Some i = sym (found_at (ltb-true (lowest test n) n h)) ∙ e in
          let m : lowest test n ≡ i = cc in
          (m, omega (arith, ltb-true (lowest test n) n h))
      go false h e =
          let k : None ≡ Some i = sym (found_nothing (omega (arith, lowest-most test n, borrow.Author.Tests.ltb-false (lowest test n) n h))) ∙ e in
          absurd (let z : ◌≡◌ {A = ℕ} 0 1 = cc in let w : ⊥ = omega arith in w)

  pub nothing-says : found test n ≡ None → lowest test n ≡ n
  nothing-says e = go (ltb (lowest test n) n) refl
    where
      go : (b : Bool) → ltb (lowest test n) n ≡ b → lowest test n ≡ n
      go true h =
          let k : Some (lowest test n) ≡ None = sym (found_at (ltb-true (lowest test n) n h)) ∙ e in
          absurd (let z : ◌≡◌ {A = ℕ} 0 1 = cc in let w : ⊥ = omega arith in w)
      go false h = omega (arith, lowest-most test n, borrow.Author.Tests.ltb-false (lowest test n) n h)

-- a search of the numbers from 0 on, as `find` over a range answers it
pub found-by : (test : ℕ → Bool) (n : ℕ) (r : Option ℕ)
    → MatchOption r ((k : ℕ) → 0 ≤ k → k < n → test k ≡ false) (λ i. (0 ≤ i) × (i < n) × (test i ≡ true) × ((k : ℕ) → 0 ≤ k → k < i → test k ≡ false))
    → r ≡ found test n
found-by test n None h = sym (found_nothing test n (lowest-none test n (λ k b. h k (omega arith) b)))
found-by test n (Some i) h = found-is test n i (lowest-at test n i h.1 h.2 (λ k b. h.3 k (omega arith) b)) h.1

-- the same from what each call of its closure does
pub found-range : {F : Type 0} {g : Mut F (Bor ℕ × Unit {0}) Bool} (test : ℕ → Bool) (n : ℕ) (u : _) (f : F) (r : Option ℕ)
    → (xs : List ℕ) × (j : F) × YieldsThen nat_range_steps (record { start = 0; end = n }) xs r u × FoldsTo (λ p x q. CalledAt g p x false q) f xs j
    × MatchOption r ⊤ (λ x. (h : F) × CalledAt g j x true h)
    → ((x : ℕ) (q : F) → CalledAt g f x true q → test x ≡ true)
    → ((x : ℕ) (q : F) → CalledAt g f x false q → (q ≡ f) × (test x ≡ false))
    → r ≡ found test n
found-range test n u f r ran hit miss =
    found-by test n r (first_from_Range (record { start = 0; end = n }) u f r (λ i. test i ≡ true) (λ i. test i ≡ false) ran hit miss)

-- a search of a list, as `position` answers it
pub found-in : (test : ℕ → Bool) (xs : List ℕ) (r : Option ℕ)
    → MatchOption r (AllWithin (λ x. test x ≡ false) xs 0 (length xs)) (λ i. (i < length xs) × HoldsAt (λ x. test x ≡ true) xs i × AllWithin (λ x. test x ≡ false) xs 0 i)
    → r ≡ found (λ i. test (get_or xs i 0)) (length xs)
found-in test xs None h = found-by _ _ None (λ k a b. h k 0 a b)
found-in test xs (Some i) h = found-by _ _ (Some i) (omega arith, h.0, h.1 0, λ k a b. h.2 k 0 a b)

-- the number of what was found, or as many as were looked at
pub found-or : (test : ℕ → Bool) (n : ℕ) → unwrap_or (found test n) n ≡ lowest test n
unfolding found
found-or test n = ⊎_elim
    (λ (e : lowest test n ≡ n). rw (le-ltb (lowest test n) n (omega arith)) (sym e))
    (λ (e : lowest test n ≡ n → ⊥). rw (lt-ltb (lowest test n) n (omega (arith, e, lowest-most test n))) refl)
    (same? (lowest test n) n)

found-some : (test : ℕ → Bool) (n k : ℕ) → k < n → test k ≡ true → true ≡ is_some (found test n)
found-some test n k b e = sym (ap is_some (found_at test n (omega (arith, lowest-first test n k b e))))

found-none : (test : ℕ → Bool) (n : ℕ) → ((k : ℕ) → k < n → test k ≡ false) → false ≡ is_some (found test n)
found-none test n h = sym (ap is_some (found_nothing test n (lowest-none test n h)))

-- whether anything is found, as `any` over a range answers it
pub found-any : {F : Type 0} {g : Mut F (ℕ × Unit {0}) Bool} (test : ℕ → Bool) (n : ℕ) (u : _) (f : F) (r : Bool)
    → (xs : List ℕ) × (o : Option ℕ) × (j : F) × YieldsThen nat_range_steps (record { start = 0; end = n }) xs o u × FoldsTo (λ p x q. Called g p (x, tt) false q) f xs j
    × MatchOption o (r ≡ false) (λ x. (r ≡ true) × ((h : F) × Called g j (x, tt) true h))
    → ((x : ℕ) (q : F) → Called g f (x, tt) true q → test x ≡ true)
    → ((x : ℕ) (q : F) → Called g f (x, tt) false q → (q ≡ f) × (test x ≡ false))
    → r ≡ is_some (found test n)
found-any test n u f r ran hit miss =
    told r (cases_from_any u f r (λ x. test x ≡ true) (λ x. test x ≡ false) ran (YieldsList-from_range 0 n n refl (let z : n - 0 ≡ n = omega arith in z)) hit miss)
  where
    told : (r : Bool)
        → MatchBool r ((k : ℕ) × (k < length (range_with_len 0 n)) × HoldsAt (λ x. test x ≡ true) (range_with_len 0 n) k)
        (AllWithin (λ x. test x ≡ false) (range_with_len 0 n) 0 (length (range_with_len 0 n)))
        → r ≡ is_some (found test n)
    told true h =
        let b : h.0 < n = omega (arith, h.1, length-range_with_len 0 n) in
        found-some test n h.0 b (subst (λ (j : ℕ). test j ≡ true) (in-range n h.0 b) (h.2 0))
    told false h = found-none test n (λ k b.
        subst (λ (j : ℕ). test j ≡ false) (in-range n k b) (h k 0 (omega arith) (omega (arith, length-range_with_len 0 n))))
