-- A pass over all numbers below n that stops at the first that fails a test, and what `all` over them answers.
use mathlib.Core.Path.{◌≡◌, refl, sym, ap, subst, ◌∙◌}
use mathlib.Core.Bool.{Bool, true, false}
use Prim.Native.Nat.{ℕ, ◌+◌, ◌-◌, ◌≤◌, ◌<◌}
use native.Mathlib.Omega.{arith}
use lib.ListN.{length, get_or}
use mathlib.Core.List.{List}
use denote.Param.Members.{Mut}
use Rattle.std.specs.Prelude.{Option, MatchOption}
use Rattle.std.specs.Fn.{Called}
use Rattle.std.specs.Iterator.{YieldsThen}
use Rattle.std.specs.Bool.{MatchBool}
use Rattle.std.specs.List.{range_with_len, AllWithin, HoldsAt, FoldsTo}
use Rattle.std.proofs.iter.Yields.{nat_range_steps}
use Rattle.std.proofs.lemmas.Iterator.{cases_from_all, YieldsList-from_range}
use Rattle.std.proofs.lemmas.List.FromFn.{length-range_with_len, get_or-range_with_len}
use Rattle.cells.specs.Count.{all_to}
use Rattle.cells.proofs.Counts.{all_more, all_of, all-not}

pub record Passing (f : ℕ → Bool) (n i : ℕ) : Type 0 where
  pub few : i ≤ n
  pub so_far : all_to f i ≡ true

module _ (f : ℕ → Bool) (n : ℕ) where
  pub passing-start : Passing f n 0
  passing-start = record { few = omega arith; so_far = refl }

  pub passing_step : (i : ℕ) → i < n → f i ≡ true → Passing f n i → Passing f n (i + 1)
  passing_step i h e p = record { few = omega arith; so_far = all_more f i p.so_far e }

  pub passing-stop : (i : ℕ) → i < n → f i ≡ false → false ≡ all_to f n
  passing-stop i h e = sym (all-not f n i h e)

  pub passing-done : (i : ℕ) → n ≤ i → Passing f n i → true ≡ all_to f n
  passing-done i h p = sym (ap (all_to f) (let e : n ≡ i = omega (arith, p.few) in e) ∙ p.so_far)

pub in-range : (n i : ℕ) → i < n → get_or (range_with_len 0 n) i 0 ≡ i
in-range n i b = omega (arith, get_or-range_with_len 0 n i 0 b)

module _ (test : ℕ → Bool) (n : ℕ) where
  passes-all : (r : Bool)
      → MatchBool r (AllWithin (λ x. test x ≡ true) (range_with_len 0 n) 0 (length (range_with_len 0 n)))
      ((k : ℕ) × (k < length (range_with_len 0 n)) × HoldsAt (λ x. test x ≡ false) (range_with_len 0 n) k)
      → r ≡ all_to test n
  passes-all true h = sym (all_of test n (λ i b.
      subst (λ (j : ℕ). test j ≡ true) (in-range n i b) (h i 0 (omega arith) (omega (arith, length-range_with_len 0 n)))))
  passes-all false h =
      let b : h.0 < n = omega (arith, h.1, length-range_with_len 0 n) in
      sym (all-not test n h.0 b (subst (λ (j : ℕ). test j ≡ false) (in-range n h.0 b) (h.2 0)))

  -- what `all` over a range from 0 on answers, from what each call of its closure does
  pub range-all : {F : Type 0} {g : Mut F (ℕ × Unit {0}) Bool} (u : _) (f : F) (r : Bool)
      → (xs : List ℕ) × (o : Option ℕ) × (j : F) × YieldsThen nat_range_steps (record { start = 0; end = n }) xs o u × FoldsTo (λ p x q. Called g p (x, tt) true q) f xs j
      × MatchOption o (r ≡ true) (λ x. (r ≡ false) × ((h : F) × Called g j (x, tt) false h))
      → ((x : ℕ) (q : F) → Called g f (x, tt) true q → (q ≡ f) × (test x ≡ true))
      → ((x : ℕ) (q : F) → Called g f (x, tt) false q → test x ≡ false)
      → r ≡ all_to test n
  range-all u f r ran good bad = passes-all r (cases_from_all u f r (λ x. test x ≡ true) (λ x. test x ≡ false) ran (YieldsList-from_range 0 n n refl (let z : n - 0 ≡ n = omega arith in z)) good bad)
