-- Walks along the links, portion by portion: how long a chain is, whether one of its portions is in use, and what is noted along it.
-- Assumes nothing.
use mathlib.Core.Path.{◌≡◌, refl, sym, ap, ◌∙◌}
use mathlib.Core.List.{List}
use mathlib.Core.Bool.{true, false, not, ◌&&◌, ◌||◌}
use Prim.Native.Nat.{ℕ, zero, suc, ◌+◌, ◌-◌, ◌≤◌, ◌<◌, min}
use native.Mathlib.Omega.{arith}
use native.Mathlib.Numerals.{add-one, sub-one}
use lib.ListN.{length, get_or, set, length-set}
use lib.Dec.{eqb, ltb}
use borrow.Author.Tests.{eq-eqb, ne_eqb, lt-ltb, le-ltb}
use Rattle.store.specs.Chain.{bytes_a_portion, end_link, needed, chain}
use Rattle.store.specs.Entry.{kind, size}
use Rattle.content_check.specs.Contents.{most_picture}
use Rattle.verdicts.specs.Verdicts.{walked, meets, filled}

-- ---- how long: a walk from portion f stands at portion p, after k portions

pub record Walking (links : List ℕ) (f p k : ℕ) : Type 0 where
  pub few : k ≤ length links
  pub same : walked links f 0 (length links) ≡ walked links p k (length links - k)

module _ (links : List ℕ) (f : ℕ) where
  pub walking_start : Walking links f f 0
  walking_start = record { few = omega arith; same = ap (walked links f 0) (let e : length links ≡ length links - 0 = omega arith in e) }

  module _ (p k : ℕ) (w : Walking links f p k) where
    pub walking-done : length links ≤ k → 0 ≡ walked links f 0 (length links)
    unfolding walked
    walking-done h = sym (w.same ∙ (let e : length links - k ≡ 0 = omega arith in rw e))

    module _ (h : k < length links) where
      abbrev rest : ℕ
      rest = length links - (k + 1)

      one_more : walked links f 0 (length links) ≡ walked links p k (suc rest)
      one_more = w.same ∙ ap (walked links p k) (let e : length links - k ≡ suc rest = omega arith in e)

      pub walking-out : length links ≤ p → 0 ≡ walked links f 0 (length links)
      unfolding walked
      walking-out o = sym (one_more ∙ rw (le-ltb p (length links) o))

      pub walking-end : p < length links → get_or links p 0 ≡ end_link → k + 1 ≡ walked links f 0 (length links)
      unfolding walked
      walking-end b z = sym (one_more ∙ rw (lt-ltb p (length links) b, eq-eqb (get_or links p 0) end_link z, add-one k))

      pub walking_on : p < length links → (get_or links p 0 ≡ end_link → ⊥) → Walking links f (get_or links p 0) (k + 1)
      unfolding walked
      walking_on b z = record { few = omega arith; same = one_more ∙ rw (lt-ltb p (length links) b, ne_eqb (get_or links p 0) end_link z, add-one k) }

-- ---- a chain of n portions beside the size of an entry

module _ (e : List ℕ) (n s d : ℕ) (es : s ≡ size e) (ed : d ≡ needed s) where
  pub size-other : (n ≡ d → ⊥) → true ≡ (not (eqb n (needed (size e))) || (eqb (kind e) 2 && ltb most_picture (size e)))
  size-other q = rw (← es, ← ed, ne_eqb n d q)

  module _ (q : n ≡ d) (k : ℕ) (ek : k ≡ kind e) where
    pub size-form : (k ≡ 2 → ⊥) → false ≡ (not (eqb n (needed (size e))) || (eqb (kind e) 2 && ltb most_picture (size e)))
    size-form o = rw (← es, ← ed, ← ek, eq-eqb n d q, ne_eqb k 2 o)

    pub size-picture : k ≡ 2 → ltb most_picture s ≡ (not (eqb n (needed (size e))) || (eqb (kind e) 2 && ltb most_picture (size e)))
    size-picture o = rw (← es, ← ed, ← ek, eq-eqb n d q, eq-eqb k 2 o)

-- ---- one of n portions from f on is in use: k portions are left, from p on

pub record Meeting (links fills : List ℕ) (f n p k : ℕ) : Type 0 where
  pub same : meets fills (chain links f n) ≡ meets fills (chain links p k)

module _ (links fills : List ℕ) (f n : ℕ) where
  pub meeting-start : Meeting links fills f n f n
  meeting-start = record { same = refl }

  pub meeting-here : (p k v : ℕ) → 0 < k → v ≡ get_or fills p 0 → 0 < v → Meeting links fills f n p k → true ≡ meets fills (chain links f n)
  meeting-here p zero v h e s m = absurd (omega arith)
  meeting-here p (suc k) v h e s m = sym (m.same ∙ rw (ne_eqb (get_or fills p 0) 0 (λ z. omega arith)))

  pub meeting-on : (p k v q : ℕ) → 0 < k → v ≡ get_or fills p 0 → v ≤ 0 → q ≡ get_or links p 0 → Meeting links fills f n p k
      → Meeting links fills f n q (k - 1)
  meeting-on p zero v q h e z eq m = absurd (omega arith)
  meeting-on p (suc k) v q h e z eq m = record { same = m.same ∙ rw (eq-eqb (get_or fills p 0) 0 (omega arith), sub-one, eq) }

  pub meeting-done : (p k : ℕ) → k ≤ 0 → Meeting links fills f n p k → false ≡ meets fills (chain links f n)
  meeting-done p zero h m = sym m.same
  meeting-done p (suc k) h m = absurd (omega arith)

-- ---- s bytes noted along n portions from f on: t bytes are left for k portions from p on

pub record Filling (links fills₀ : List ℕ) (f n s : ℕ) (fills : List ℕ) (p k t : ℕ) : Type 0 where
  pub long : length fills ≡ length fills₀
  pub same : filled fills₀ (chain links f n) s ≡ filled fills (chain links p k) t

module _ (links fills₀ : List ℕ) (f n s : ℕ) where
  pub filling-start : Filling links fills₀ f n s fills₀ f n s
  filling-start = record { long = refl; same = refl }

  pub filling_step : (fills fills' : List ℕ) (p k t m q t' : ℕ) → 0 < k → m ≡ min bytes_a_portion t → fills' ≡ set fills p (1 + m) → q ≡ get_or links p 0 → t' ≡ t - bytes_a_portion
      → Filling links fills₀ f n s fills p k t → Filling links fills₀ f n s fills' q (k - 1) t'
  filling_step fills fills' p zero t m q t' h em ef eq et w = absurd (omega arith)
  filling_step fills fills' p (suc k) t m q t' h em ef eq et w = record {
    long = ap length ef ∙ length-set fills p (1 + m) ∙ w.long;
    same = w.same ∙ rw (ef, em, eq, et, sub-one);
  }

  pub filling-done : (fills : List ℕ) (p k t : ℕ) → k ≤ 0 → Filling links fills₀ f n s fills p k t → fills ≡ filled fills₀ (chain links f n) s
  filling-done fills p zero t h w = sym w.same
  filling-done fills p (suc k) t h w = absurd (omega arith)
