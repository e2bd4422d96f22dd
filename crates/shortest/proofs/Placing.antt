-- The symbols one after the other: each is the first of what is left.
-- Assumes nothing.
use mathlib.Core.Path.{◌≡◌, refl, sym, ap, ◌∙◌}
use mathlib.Core.Bool.{Bool, true, false, cond, true≢false}
use mathlib.Core.List.{List, [], ◌∷◌}
use Prim.Native.Nat.{ℕ, ◌+◌, ◌≤◌, ◌<◌}
use native.Mathlib.Numerals.{add-one}
use native.Mathlib.Omega.{arith}
use lib.ListN.{length, get_or, set, drop, length-set, drop_of_length-le, get_or-eq_default}
use lib.Seq.{sets, drop-drop}
use lib.Dec.{ltb}
use borrow.Author.Tests.{ltb-true, ltb-false, lt-ltb, le-ltb}
use Rattle.shortest.specs.declared.Set.{Set}
use Rattle.shortest.specs.declared.Set.TheVariants.{B, C}
use Rattle.shortest.specs.declared.plan.Lengths.{Lengths}
use Rattle.shortest.specs.declared.steps.Step.{Step}
use Rattle.shortest.specs.Writing.{byte_of, pair_of}
use Rattle.shortest.specs.Found.{Best, two, leaves_b, step, best, in_set, started}
use Rattle.shortest.specs.Lengths.{Measured, mark_of, Next}
use Rattle.shortest.proofs.Digits.{digits}
use Rattle.shortest.proofs.Best.{Turn, changed, stayed, alone, turn, near, few, best-at, best-later}
use Rattle.shortest.proofs.Planning.{mark-at}

-- ---- the four symbols that may stand at place i, where byte a is followed by b or by nothing

module _ (s : List ℕ) (i : ℕ) (inside : i < length s) where
  abbrev a : ℕ
  a = get_or s i 0

  abbrev b : ℕ
  b = get_or s (i + 1) 0

  abbrev r : Best
  r = best (drop (i + 1) s)

  pub next-byte : mark_of (drop i s) ≡ 0 → Next s i B (record { symbol = byte_of a; at = i + 1; set = B })
  next-byte e = record { symbol = rw (best-at s i inside) (go (turn a b r) (sym (mark-at s i inside) ∙ e)); within = omega arith }
    where
      go : Turn a b r → ◌≡◌ {A = ℕ} (cond (leaves_b a b r) 1 0) 0 → (step a b r).in_b ≡ byte_of a ∷ r.in_b
      go (changed w l t p q) h = absurd (let z = rw t at h in omega arith)
      go (stayed w l t p q) h = p
      go (alone w t p q) h = p

  pub next-to-c : 0 < mark_of (drop i s) → Next s i B (record { symbol = 99; at = i; set = C })
  next-to-c e = record { symbol = rw (best-at s i inside) (go (turn a b r) (rw (mark-at s i inside) at e)); within = omega arith }
    where
      go : Turn a b r → 0 < cond (leaves_b a b r) 1 0 → (step a b r).in_b ≡ 99 ∷ (step a b r).in_c
      go (changed w l t p q) h = rw (p, q)
      go (stayed w l t p q) h = absurd (let z = rw t at h in omega arith)
      go (alone w t p q) h = absurd (let z = rw t at h in omega arith)

  -- two digits reach no further than the data
  two-inside : two a b ≡ true → i + 1 < length s
  two-inside e = go (ltb (i + 1) (length s)) refl
    where
      go : (t : Bool) → ltb (i + 1) (length s) ≡ t → i + 1 < length s
      go true q = ltb-true _ _ q
      go false q = absurd (let z = get_or-eq_default s 0 (ltb-false (i + 1) (length s) q) in let d = digits a b e in omega arith)

  two-more : i + 1 + 1 ≡ i + 2
  two-more = omega arith

  pub next-pair : two a b ≡ true → Next s i C (record { symbol = pair_of a b; at = i + 2; set = C })
  unfolding step
  next-pair e = record {
    symbol = rw (best-at s i inside, e, best-later (drop (i + 1) s), drop-drop 1 (i + 1) s, two-more);
    within = omega (arith, two-inside e);
  }

  pub next-to-b : two a b ≡ false → Next s i C (record { symbol = 100; at = i; set = B })
  next-to-b e = record { symbol = rw (best-at s i inside) (go (turn a b r)); within = omega arith }
    where
      go : Turn a b r → (step a b r).in_c ≡ 100 ∷ (step a b r).in_b
      go (changed w l t p q) = absurd (true≢false (sym w ∙ e))
      go (stayed w l t p q) = absurd (true≢false (sym w ∙ e))
      go (alone w t p q) = rw (p, q)

-- ---- the loop

pub record Placing (s out₀ : List ℕ) (set₀ : Set) (out : List ℕ) (set : Set) (k i : ℕ) : Type 0 where
  pub below : i ≤ length s
  pub long : length out ≡ length out₀
  pub count : k + length (in_set set (best (drop i s))) ≡ 1 + length (in_set set₀ (best s))
  pub whole : sets out k (in_set set (best (drop i s))) ≡ sets out₀ 1 (in_set set₀ (best s))

pub placing-step : (s out₀ : List ℕ) (set₀ : Set) (out out' : List ℕ) (here : Set) (k i : ℕ) (t : Step) → Placing s out₀ set₀ out here k i
    → Next s i here t → out' ≡ set out k t.symbol → Placing s out₀ set₀ out' t.set (k + 1) t.at
placing-step s out₀ set₀ out out' here k i t p n e = record {
  below = n.within;
  long = ap length e ∙ length-set out k t.symbol ∙ p.long;
  count = let z = ap length n.symbol in omega (arith, p.count);
  whole = rw (e, add-one k) (ap (sets out k) (sym n.symbol) ∙ p.whole);
}

in_set-none : (set : Set) → in_set set (best []) ≡ []
unfolding best
in_set-none B = refl
in_set-none C = refl

pub placing-done : (s out₀ : List ℕ) (set₀ : Set) (out : List ℕ) (here : Set) (k i : ℕ) → length s ≤ i → Placing s out₀ set₀ out here k i
    → (k ≡ 1 + length (in_set set₀ (best s))) × (out ≡ sets out₀ 1 (in_set set₀ (best s)))
placing-done s out₀ set₀ out here k i h p =
    let z : in_set here (best (drop i s)) ≡ [] = ap (λ l. in_set here (best l)) (drop_of_length-le s h) ∙ in_set-none here in
    (let y = ap length z in omega (arith, p.count), sym (ap (sets out k) z) ∙ p.whole)

-- a set's writing is at most one symbol longer than the data
pub placing-small : (s : List ℕ) (set : Set) → length (in_set set (best s)) ≤ length s + 1
placing-small s B = omega (arith, few s)
placing-small s C = omega (arith, few s, near s)

-- ---- the start

pub started-c : (x : Best) (m : Lengths) → Measured x m → m.c < m.b → started x ≡ 105 ∷ in_set C x
unfolding started
started-c x m k l = rw (lt-ltb (length x.in_c) (length x.in_b) (omega (arith, k)))

pub started-b : (x : Best) (m : Lengths) → Measured x m → m.b ≤ m.c → started x ≡ 104 ∷ in_set B x
unfolding started
started-b x m k l = rw (le-ltb (length x.in_c) (length x.in_b) (omega (arith, k)))

pub placed : (x : Best) (here : Set) (out₀ out₁ out₂ : List ℕ) (n r : ℕ) → started x ≡ n ∷ in_set here x → out₁ ≡ set out₀ 0 n
    → (r ≡ 1 + length (in_set here x)) × (out₂ ≡ sets out₁ 1 (in_set here x)) → (r ≡ length (started x)) × (out₂ ≡ sets out₀ 0 (started x))
placed x here out₀ out₁ out₂ n r e p q = (let z = ap length e in omega (arith, q.0), q.1 ∙ ap (λ l. sets l 1 (in_set here x)) p ∙ ap (sets out₀ 0) (sym e))
