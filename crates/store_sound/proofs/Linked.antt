-- The links alone: what a sound table of links has, and one law for every change of one chain (erased, started, grown).
use mathlib.Core.Path.{◌≡◌, sym, ap, ◌∙◌}
use mathlib.Core.List.{List, []}
use mathlib.Core.Bool.{Bool, true, ◌||◌, cond}
use mathlib.Core.Logic.{◌⊎◌, ⊎_elim}
use Prim.Native.Nat.{ℕ, ◌+◌, ◌≤◌, ◌<◌}
use native.Mathlib.Omega.{arith}
use lib.ListN.{length, get_or}
use lib.Dec.{eqb}
use borrow.Author.Tests.{eq-eqb, ne_eqb, eqb-true}
use Rattle.cells.specs.Count.{times, all_to}
use Rattle.store.specs.Chain.{chain, chain_ok}
use Rattle.ground.proofs.Tests.{same?, and_left, and_right, and_both}
use Rattle.store_sound.specs.Sound.{uses, portion_ok, links_ok}
use Rattle.cells.proofs.Counts.{all-at, all_of, sum-change, sum-has, sum-has-two}
use Rattle.store_sound.proofs.Frame.{Agree, chain-below, chain-frame, chain_ok-frame}

pub record Linked (ls : List ℕ) (fs ns : ℕ → ℕ) (E : ℕ) : Type 0 where
  pub chained : (i : ℕ) → i < E → (ns i ≡ 0 → ⊥) → chain_ok ls (fs i) (ns i) ≡ true
  pub free : (q : ℕ) → q < length ls → get_or ls q 0 ≡ 65535 → uses ls fs ns q E ≡ 0
  pub taken : (q : ℕ) → q < length ls → (get_or ls q 0 ≡ 65535 → ⊥) → uses ls fs ns q E ≡ 1

pub or_no : (a b : ℕ) (t : Bool) → (a ≡ b → ⊥) → (eqb a b || t) ≡ t
or_no a b t n = rw (ne_eqb a b n)

pub or_yes : (a b : ℕ) (t : Bool) → a ≡ b → (eqb a b || t) ≡ true
or_yes a b t e = rw (eq-eqb a b e)

cond_yes : (a b : ℕ) → a ≡ b → cond {A = ℕ} (eqb a b) 0 1 ≡ 0
cond_yes a b e = rw (eq-eqb a b e)

cond_no : (a b : ℕ) → (a ≡ b → ⊥) → cond {A = ℕ} (eqb a b) 0 1 ≡ 1
cond_no a b n = rw (ne_eqb a b n)

module _ (ls : List ℕ) (fs ns : ℕ → ℕ) (E : ℕ) where
  pub linked-facts : links_ok ls fs ns E ≡ true → Linked ls fs ns E
  unfolding links_ok portion_ok
  linked-facts h =
      let es = all-at (λ (i : ℕ). eqb (ns i) 0 || chain_ok ls (fs i) (ns i)) E (and_left _ (all_to (portion_ok ls fs ns E) (length ls)) h) in
      let ps = all-at (portion_ok ls fs ns E) (length ls) (and_right (all_to (λ (i : ℕ). eqb (ns i) 0 || chain_ok ls (fs i) (ns i)) E) _ h) in
      record {
        chained = λ i b n. sym (or_no (ns i) 0 _ n) ∙ es i b;
        free = λ q b k. eqb-true _ _ (ps q b) ∙ cond_yes (get_or ls q 0) 65535 k;
        taken = λ q b n. eqb-true _ _ (ps q b) ∙ cond_no (get_or ls q 0) 65535 n;
      }

  pub facts-linked : Linked ls fs ns E → links_ok ls fs ns E ≡ true
  unfolding links_ok portion_ok
  facts-linked s = and_both _ _
      (all_of (λ (i : ℕ). eqb (ns i) 0 || chain_ok ls (fs i) (ns i)) E (λ i b. ⊎_elim
      (λ (k : ns i ≡ 0). or_yes (ns i) 0 _ k)
      (λ (n : ns i ≡ 0 → ⊥). or_no (ns i) 0 _ n ∙ s.chained i b n)
      (same? (ns i) 0)))
      (all_of (portion_ok ls fs ns E) (length ls) (λ q b. ⊎_elim
      (λ (k : get_or ls q 0 ≡ 65535). eq-eqb _ _ (s.free q b k ∙ sym (cond_yes (get_or ls q 0) 65535 k)))
      (λ (n : get_or ls q 0 ≡ 65535 → ⊥). eq-eqb _ _ (s.taken q b n ∙ sym (cond_no (get_or ls q 0) 65535 n)))
      (same? (get_or ls q 0) 65535)))

-- ---- what is read off

module _ (ls : List ℕ) (fs ns : ℕ → ℕ) (E : ℕ) (s : Linked ls fs ns E) where
  -- a portion is in at most one chain, once
  pub at_most : (q : ℕ) → q < length ls → uses ls fs ns q E ≤ 1
  at_most q b = ⊎_elim (λ (k : get_or ls q 0 ≡ 65535). omega (arith, s.free q b k)) (λ (n : get_or ls q 0 ≡ 65535 → ⊥). omega (arith, s.taken q b n)) (same? (get_or ls q 0) 65535)

  pub held_below : (i : ℕ) → i < E → (q : ℕ) → 0 < times q (chain ls (fs i) (ns i)) → q < length ls
  held_below i b q h = ⊎_elim
      (λ (k : ns i ≡ 0). absurd (let z : 0 < times q [] = rw k at h in omega arith))
      (λ (n : ns i ≡ 0 → ⊥). chain-below ls (fs i) (ns i) (s.chained i b n) q h)
      (same? (ns i) 0)

  pub held_in : (i : ℕ) → i < E → (q : ℕ) → times q (chain ls (fs i) (ns i)) ≤ uses ls fs ns q E
  held_in i b q = sum-has (λ (j : ℕ). times q (chain ls (fs j) (ns j))) i E b

  pub held-once : (i : ℕ) → i < E → (q : ℕ) → times q (chain ls (fs i) (ns i)) ≤ 1
  held-once i b q = ⊎_elim
      (λ (z : times q (chain ls (fs i) (ns i)) ≡ 0). omega arith)
      (λ (n : times q (chain ls (fs i) (ns i)) ≡ 0 → ⊥). omega (arith, at_most q (held_below i b q (omega arith)), held_in i b q))
      (same? (times q (chain ls (fs i) (ns i))) 0)

  -- a portion of one chain is in no other
  pub held-apart : (i j : ℕ) → i < E → j < E → (j ≡ i → ⊥) → (q : ℕ) → 0 < times q (chain ls (fs j) (ns j)) → times q (chain ls (fs i) (ns i)) ≡ 0
  held-apart i j bi bj ne q h =
      omega (arith, at_most q (held_below j bj q h), sum-has-two (λ (k : ℕ). times q (chain ls (fs k) (ns k))) j i E bj bi ne)

  -- a free portion is in no chain
  pub free-out : (i : ℕ) → i < E → (q : ℕ) → q < length ls → get_or ls q 0 ≡ 65535 → times q (chain ls (fs i) (ns i)) ≡ 0
  free-out i b q l k = omega (arith, s.free q l k, held_in i b q)

-- ---- one chain changes

-- chain i, the portions old, becomes new: the table changes at these alone, new ones were old or free, and what is left of old is free
pub record Change (ls ls' : List ℕ) (fs ns fs' ns' : ℕ → ℕ) (E i : ℕ) (old new : List ℕ) : Type 0 where
  pub here : i < E
  pub was : chain ls (fs i) (ns i) ≡ old
  pub now : chain ls' (fs' i) (ns' i) ≡ new
  pub firsts : (j : ℕ) → j < E → (j ≡ i → ⊥) → fs' j ≡ fs j
  pub counts : (j : ℕ) → j < E → (j ≡ i → ⊥) → ns' j ≡ ns j
  pub long : length ls' ≡ length ls
  pub kept : (q : ℕ) → q < length ls → times q old ≡ 0 → times q new ≡ 0 → get_or ls' q 0 ≡ get_or ls q 0
  pub whence : (q : ℕ) → q < length ls → 0 < times q new → (0 < times q old) ⊎ (get_or ls q 0 ≡ 65535)
  pub once : (q : ℕ) → times q new ≤ 1
  pub ok : (ns' i ≡ 0 → ⊥) → chain_ok ls' (fs' i) (ns' i) ≡ true
  pub gone : (q : ℕ) → q < length ls → 0 < times q old → times q new ≡ 0 → get_or ls' q 0 ≡ 65535
  pub held : (q : ℕ) → q < length ls → 0 < times q new → get_or ls' q 0 ≡ 65535 → ⊥

module _ (ls ls' : List ℕ) (fs ns fs' ns' : ℕ → ℕ) (E i : ℕ) (old new : List ℕ) (s : Linked ls fs ns E) (c : Change ls ls' fs ns fs' ns' E i old new) where
  -- a portion of another chain is neither an old one nor a new one
  pub not-old : (j : ℕ) → j < E → (j ≡ i → ⊥) → (q : ℕ) → 0 < times q (chain ls (fs j) (ns j)) → times q old ≡ 0
  not-old j b ne q h = ap (λ (l : List ℕ). times q l) (sym c.was) ∙ held-apart ls fs ns E s i j c.here b ne q h

  pub not_new : (j : ℕ) → j < E → (j ≡ i → ⊥) → (q : ℕ) → 0 < times q (chain ls (fs j) (ns j)) → times q new ≡ 0
  not_new j b ne q h = ⊎_elim (λ (z : times q new ≡ 0). z)
      (λ (n : times q new ≡ 0 → ⊥). absurd (⊎_elim
      (λ (o : 0 < times q old). omega (arith, not-old j b ne q h))
      (λ (f : get_or ls q 0 ≡ 65535). omega (arith, free-out ls fs ns E s j b q (held_below ls fs ns E s j b q h) f))
      (c.whence q (held_below ls fs ns E s j b q h) (omega arith))))
      (same? (times q new) 0)

  others-agree : (j : ℕ) → j < E → (j ≡ i → ⊥) → Agree (chain ls (fs j) (ns j)) ls ls'
  others-agree j b ne q h = c.kept q (held_below ls fs ns E s j b q h) (not-old j b ne q h) (not_new j b ne q h)

  pub others : (j : ℕ) → j < E → (j ≡ i → ⊥) → chain ls' (fs' j) (ns' j) ≡ chain ls (fs j) (ns j)
  others j b ne = rw (c.firsts j b ne, c.counts j b ne) (chain-frame ls ls' (fs j) (ns j) (others-agree j b ne))

  uses-change : (q : ℕ) → uses ls' fs' ns' q E + times q old ≡ uses ls fs ns q E + times q new
  uses-change q = omega (
    arith,
    sum-change (λ (j : ℕ). times q (chain ls' (fs' j) (ns' j))) (λ (j : ℕ). times q (chain ls (fs j) (ns j))) i E c.here (λ j b ne. ap (λ (l : List ℕ). times q l) (others j b ne)),
    ap (λ (l : List ℕ). times q l) c.was,
    ap (λ (l : List ℕ). times q l) c.now,
  )

  old-in : (q : ℕ) → times q old ≤ uses ls fs ns q E
  old-in q = rw (← c.was) (held_in ls fs ns E s i c.here q)

  pub changed : Linked ls' fs' ns' E
  changed = record {
    chained = λ j b n. ⊎_elim
        (λ (e : j ≡ i). rw e (c.ok (rw e at n)))
        (λ (ne : j ≡ i → ⊥). rw (c.firsts j b ne, c.counts j b ne)
        (chain_ok-frame ls ls' (fs j) (ns j) c.long (others-agree j b ne) ∙ s.chained j b (rw (c.counts j b ne) at n)))
        (same? j i);
    free = λ q b k.
        let l : q < length ls = rw c.long at b in
        let z : times q new ≡ 0 = ⊎_elim (λ (z : times q new ≡ 0). z) (λ (n : times q new ≡ 0 → ⊥). absurd (c.held q l (omega arith) k)) (same? (times q new) 0) in
        ⊎_elim
        (λ (o : times q old ≡ 0). omega (arith, uses-change q, s.free q l (sym (c.kept q l o z) ∙ k)))
        (λ (o : times q old ≡ 0 → ⊥). omega (arith, uses-change q, at_most ls fs ns E s q l))
        (same? (times q old) 0);
    taken = λ q b n.
        let l : q < length ls = rw c.long at b in
        ⊎_elim
        (λ (z : times q new ≡ 0). ⊎_elim
        (λ (o : times q old ≡ 0). omega (arith, uses-change q, s.taken q l (λ f. n (c.kept q l o z ∙ f))))
        (λ (o : times q old ≡ 0 → ⊥). absurd (n (c.gone q l (omega arith) z)))
        (same? (times q old) 0))
        (λ (z : times q new ≡ 0 → ⊥). ⊎_elim
        (λ (o : 0 < times q old). omega (arith, uses-change q, at_most ls fs ns E s q l, old-in q, c.once q))
        (λ (f : get_or ls q 0 ≡ 65535). omega (arith, uses-change q, s.free q l f, c.once q, old-in q))
        (c.whence q l (omega arith)))
        (same? (times q new) 0);
  }
