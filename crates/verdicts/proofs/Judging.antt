-- The verdict as a row of tests that ends at the first that holds, what is noted after it, and the pass over all entries.
-- Assumes nothing.
use mathlib.Core.Path.{◌≡◌, refl, sym, ap, ◌∙◌}
use mathlib.Core.List.{List}
use mathlib.Core.Bool.{Bool, true, false, not, ◌&&◌, ◌||◌, cond}
use Prim.Native.Nat.{ℕ, ◌+◌, ◌≤◌, ◌<◌}
use native.Mathlib.Omega.{arith}
use native.Mathlib.Numerals.{add-one}
use lib.ListN.{length, set}
use lib.Dec.{eqb, ltb}
use borrow.Author.Tests.{eq-eqb, ne_eqb}
use Rattle.store.specs.Chain.{needed, chain}
use Rattle.store.specs.Entry.{entries, entry, kind, first, size}
use Rattle.memory.specs.Memory.{Memory, memory, entry_of}
use Rattle.content_check.specs.Contents.{most_picture, content_ok}
use Rattle.verdicts.specs.Verdicts.{unsaid, kept, for_name, for_chain, for_size, for_shared, for_content, Known, known, wrong_name, walked, portions, wrong_size, meets, shared, wrong_content, verdict, filled, noted, judged}

-- the first test that holds decides
stop : (t : Bool) (a b : ℕ) → t ≡ true → a ≡ cond t a b
stop t a b e = rw e

skip : (t : Bool) (a b x : ℕ) → t ≡ false → x ≡ b → x ≡ cond t a b
skip t a b x e q = rw e q

-- ---- content

module _ (store links directory : List ℕ) (i k : ℕ) (ek : k ≡ kind (entry directory i)) where
  pub content-unfinished : k ≡ 3 → true ≡ wrong_content (memory store links directory) i
  unfolding wrong_content
  content-unfinished q = rw (eq-eqb (kind (entry directory i)) 3 (sym ek ∙ q))

  pub content-is : (r : Bool) → (k ≡ 3 → ⊥) → r ≡ content_ok store links directory i → not r ≡ wrong_content (memory store links directory) i
  unfolding wrong_content
  content-is r q er = rw (ne_eqb (kind (entry directory i)) 3 (λ z. q (ek ∙ z))) (ap not er)

-- ---- what the code knows of entry i, test by test

module _ (store links directory verdicts fills : List ℕ) (i k : ℕ) (ek : k ≡ kind (entry directory i)) where
  abbrev said : ℕ
  said = verdict (memory store links directory) (known verdicts fills) i

  pub verdict-empty : k ≡ 0 → unsaid ≡ said
  unfolding verdict
  verdict-empty z = stop _ unsaid _ (eq-eqb _ 0 (sym ek ∙ z))

  module _ (some : k ≡ 0 → ⊥) (n : Bool) (en : n ≡ wrong_name directory verdicts i) where
    e : eqb (kind (entry directory i)) 0 ≡ false
    e = ne_eqb _ 0 (λ z. some (ek ∙ z))

    pub verdict-name : n ≡ true → for_name ≡ said
    unfolding verdict
    verdict-name q = skip _ _ _ _ e (stop _ for_name _ (sym en ∙ q))

    module _ (named : n ≡ false) (f p : ℕ) (ef : f ≡ first (entry directory i)) (ep : p ≡ walked links f 0 (length links)) where
      long : p ≡ portions links (entry directory i)
      long = ep ∙ rw ef

      pub verdict-chain : p ≡ 0 → for_chain ≡ said
      unfolding verdict
      verdict-chain q = skip _ _ _ _ e (skip _ _ _ _ (sym en ∙ named) (stop _ for_chain _ (eq-eqb _ 0 (sym long ∙ q))))

      module _
          (whole : p ≡ 0 → ⊥) (s : Bool)
          (es : s ≡ (not (eqb p (needed (size (entry directory i)))) || (eqb (kind (entry directory i)) 2 && ltb most_picture (size (entry directory i))))) where
        sized : s ≡ wrong_size links (entry directory i)
        unfolding wrong_size
        sized = es ∙ rw (← long)

        on : (x : ℕ)
            → x ≡ cond (wrong_size links (entry directory i)) for_size
            (cond (shared links fills (entry directory i)) for_shared (cond (wrong_content (memory store links directory) i) for_content kept))
            → x ≡ said
        unfolding verdict
        on x q = skip _ _ _ _ e (skip _ _ _ _ (sym en ∙ named) (skip _ _ _ _ (ne_eqb _ 0 (λ z. whole (long ∙ z))) q))

        pub verdict-size : s ≡ true → for_size ≡ said
        verdict-size q = on for_size (stop _ for_size _ (sym sized ∙ q))

        module _ (fits : s ≡ false) (h : Bool) (eh : h ≡ meets fills (chain links f p)) where
          met : h ≡ shared links fills (entry directory i)
          unfolding shared
          met = eh ∙ rw (ef, ← long)

          pub verdict-shared : h ≡ true → for_shared ≡ said
          verdict-shared q = on for_shared (skip _ _ _ _ (sym sized ∙ fits) (stop _ for_shared _ (sym met ∙ q)))

          module _ (alone : h ≡ false) (c : Bool) (ec : c ≡ wrong_content (memory store links directory) i) where
            pub verdict-content : c ≡ true → for_content ≡ said
            verdict-content q = on for_content (skip _ _ _ _ (sym sized ∙ fits) (skip _ _ _ _ (sym met ∙ alone) (stop _ for_content kept (sym ec ∙ q))))

            pub verdict-kept : c ≡ false → kept ≡ said
            verdict-kept q = on kept (skip _ _ _ _ (sym sized ∙ fits) (skip _ _ _ _ (sym met ∙ alone) (skip _ for_content kept kept (sym ec ∙ q) refl)))

-- ---- notes

module _ (links e verdicts verdicts' fills : List ℕ) (i v : ℕ) (ev : verdicts' ≡ set verdicts i v) where
  pub noted-dropped : (v ≡ kept → ⊥) → known verdicts' fills ≡ noted links e (known verdicts fills) i v
  unfolding noted
  noted-dropped n = rw (ev, ne_eqb v kept n)

  pub noted-kept : (fills' : List ℕ) (f n s : ℕ) → v ≡ kept → f ≡ first e → n ≡ walked links f 0 (length links) → s ≡ size e
      → fills' ≡ filled fills (chain links f n) s → known verdicts' fills' ≡ noted links e (known verdicts fills) i v
  unfolding noted
  noted-kept fills' f n s y ef en es q = let m : n ≡ portions links e = en ∙ rw ef in rw (ev, eq-eqb v kept y, q, m, ef, es)

-- ---- the pass over the entries: the first i are judged

judged-more : (m : Memory) (k₀ k k' : Known) (i v : ℕ) → k ≡ judged m k₀ i → v ≡ verdict m k i → k' ≡ noted m.links (entry_of m i) k i v
    → k' ≡ judged m k₀ (i + 1)
unfolding judged
judged-more m k₀ k k' i v es ev en = en ∙ rw (ev, es, add-one i)

pub record Judging (m : Memory) (verdicts₀ fills₀ verdicts fills : List ℕ) (i : ℕ) : Type 0 where
  pub few : i ≤ entries m.directory
  pub verdicts-long : length verdicts ≡ length verdicts₀
  pub fills-long : length fills ≡ length fills₀
  pub same : known verdicts fills ≡ judged m (known verdicts₀ fills₀) i

module _ (m : Memory) (verdicts₀ fills₀ : List ℕ) where
  pub judging-start : Judging m verdicts₀ fills₀ verdicts₀ fills₀ 0
  unfolding judged
  judging-start = record { few = omega arith; verdicts-long = refl; fills-long = refl; same = refl }

  module _ (verdicts fills : List ℕ) (i : ℕ) (j : Judging m verdicts₀ fills₀ verdicts fills i) where
    pub judging-step : (verdicts' fills' : List ℕ) (v : ℕ) → i < entries m.directory → length verdicts' ≡ length verdicts → length fills' ≡ length fills
        → v ≡ verdict m (known verdicts fills) i → known verdicts' fills' ≡ noted m.links (entry_of m i) (known verdicts fills) i v
        → Judging m verdicts₀ fills₀ verdicts' fills' (i + 1)
    judging-step verdicts' fills' v b lv lf ev en = record {
      few = omega arith;
      verdicts-long = lv ∙ j.verdicts-long;
      fills-long = lf ∙ j.fills-long;
      same = judged-more m (known verdicts₀ fills₀) (known verdicts fills) (known verdicts' fills') i v j.same ev en;
    }

    pub judging-done : entries m.directory ≤ i → known verdicts fills ≡ judged m (known verdicts₀ fills₀) (entries m.directory)
    judging-done h = j.same ∙ ap (judged m (known verdicts₀ fills₀)) (let e : i ≡ entries m.directory = omega (arith, j.few) in e)
