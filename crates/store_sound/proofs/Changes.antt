-- The three changes of one chain: it is erased, started with one free portion, or grown by one. Each is a `Change`, so each keeps `Linked`.
use mathlib.Core.Path.{◌≡◌, refl, sym, ap, ◌∙◌}
use mathlib.Core.List.{List, [], ◌∷◌, ◌++◌}
use mathlib.Core.Bool.{true}
use mathlib.Core.Logic.{inl, inr, ⊎_elim}
use Prim.Native.Nat.{ℕ, zero, suc, ◌+◌, ◌≤◌, ◌<◌}
use native.Mathlib.Omega.{arith}
use lib.ListN.{length, get_or, set, length-set}
use lib.Seq.{get_or-set_same, get_or-set_other}
use lib.Dec.{ltb}
use borrow.Author.Tests.{lt-ltb}
use Rattle.cells.specs.Count.{times, set_all}
use Rattle.store.specs.Chain.{chain, chain_ok, walk}
use Rattle.cells.proofs.Counts.{one-yes, one-no, times-append, length-set_all, set_all-in, set_all-out}
use Rattle.ground.proofs.Tests.{same?, and_left, and_right, and_both}
use Rattle.store_sound.proofs.Frame.{chain-below}
use Rattle.store_sound.proofs.Linked.{Linked, Change, held-once, free-out}

-- the links with portion q, free so far, put behind portion l, the last of its chain
abbrev pub hung : List ℕ → ℕ → ℕ → List ℕ
hung links l q = set (set links l q) q 65534

one_in : (p q : ℕ) → 0 < times q (p ∷ []) → p ≡ q
one_in p q h = ⊎_elim (λ (k : p ≡ q). k) (λ (n : p ≡ q → ⊥). absurd (omega (arith, one-no p q n))) (same? p q)

one-le : (p q : ℕ) → times q (p ∷ []) ≤ 1
one-le p q = ⊎_elim (λ (k : p ≡ q). omega (arith, one-yes p q k)) (λ (n : p ≡ q → ⊥). omega (arith, one-no p q n)) (same? p q)

-- ---- the last portion of a chain, and a chain grown by one

pub chain_snoc : (ls : List ℕ) (p n : ℕ) → chain ls p (suc n) ≡ chain ls p n ++ (walk ls p n ∷ [])
chain_snoc ls p zero = refl
chain_snoc ls p (suc n) = ap (λ (t : List ℕ). p ∷ t) (chain_snoc ls (get_or ls p 0) n)

pub last-in : (ls : List ℕ) (p n : ℕ) → 0 < times (walk ls p n) (chain ls p (suc n))
last-in ls p n = omega (
  arith,
  ap (λ (l : List ℕ). times (walk ls p n) l) (chain_snoc ls p n),
  times-append (walk ls p n) (chain ls p n) (walk ls p n ∷ []),
  one-yes (walk ls p n) (walk ls p n) refl,
)

module _ (ls : List ℕ) (q : ℕ) (bq : q < length ls) where
  pub hung-last : (l : ℕ) → l < length ls → (l ≡ q → ⊥) → get_or (hung ls l q) l 0 ≡ q
  hung-last l b ne = get_or-set_other (set ls l q) q l 65534 0 ne ∙ get_or-set_same ls l q 0 b

  pub hung-new : (l : ℕ) → get_or (hung ls l q) q 0 ≡ 65534
  hung-new l = get_or-set_same (set ls l q) q 65534 0 (rw length-set bq)

  pub hung-other : (l r : ℕ) → (r ≡ q → ⊥) → (r ≡ l → ⊥) → get_or (hung ls l q) r 0 ≡ get_or ls r 0
  hung-other l r nq nl = get_or-set_other (set ls l q) q r 65534 0 nq ∙ get_or-set_other ls l r q 0 nl

  pub length-hung : (l : ℕ) → length (hung ls l q) ≡ length ls
  length-hung l = length-set (set ls l q) q 65534 ∙ length-set ls l q

  -- from a portion p of the chain on, with n portions behind it
  pub hung-chain : (p n : ℕ) → chain_ok ls p (suc n) ≡ true → times q (chain ls p (suc n)) ≡ 0 → ((r : ℕ) → times r (chain ls p (suc n)) ≤ 1)
      → chain (hung ls (walk ls p n) q) p (suc (suc n)) ≡ chain ls p (suc n) ++ (q ∷ [])
  hung-chain p zero ok z o =
      let b = chain-below ls p 1 ok p (omega (arith, one-yes p p refl)) in
      let ne : p ≡ q → ⊥ = λ e. omega (arith, one-yes p q e) in
      rw (hung-last p b ne)
  hung-chain p (suc n) ok z o =
      let p≢q : p ≡ q → ⊥ = λ e. omega (arith, one-yes p q e) in
      let p≢l : p ≡ walk ls p (suc n) → ⊥ = λ e. omega (arith, one-yes p (walk ls p (suc n)) e, last-in ls (get_or ls p 0) n, o (walk ls p (suc n))) in
      rw (hung-other (walk ls p (suc n)) p p≢q p≢l)
      (ap (λ (t : List ℕ). p ∷ t) (hung-chain (get_or ls p 0) n (and_right (ltb p (length ls)) (chain_ok ls (get_or ls p 0) (suc n)) ok) (omega arith) (λ r. omega (arith, o r))))

  pub hung-ok : (p n : ℕ) → chain_ok ls p (suc n) ≡ true → times q (chain ls p (suc n)) ≡ 0 → ((r : ℕ) → times r (chain ls p (suc n)) ≤ 1)
      → chain_ok (hung ls (walk ls p n) q) p (suc (suc n)) ≡ true
  hung-ok p zero ok z o =
      let b = chain-below ls p 1 ok p (omega (arith, one-yes p p refl)) in
      let ne : p ≡ q → ⊥ = λ e. omega (arith, one-yes p q e) in
      rw (length-hung p, hung-last p b ne, hung-new p, lt-ltb p (length ls) b, lt-ltb q (length ls) bq)
  hung-ok p (suc n) ok z o =
      let p≢q : p ≡ q → ⊥ = λ e. omega (arith, one-yes p q e) in
      let p≢l : p ≡ walk ls p (suc n) → ⊥ = λ e. omega (arith, one-yes p (walk ls p (suc n)) e, last-in ls (get_or ls p 0) n, o (walk ls p (suc n))) in
      rw (hung-other (walk ls p (suc n)) p p≢q p≢l, length-hung (walk ls p (suc n)))
      (and_both (ltb p (length ls)) _ (and_left (ltb p (length ls)) (chain_ok ls (get_or ls p 0) (suc n)) ok)
      (rw (length-hung (walk ls p (suc n))) at
      (hung-ok (get_or ls p 0) n (and_right (ltb p (length ls)) (chain_ok ls (get_or ls p 0) (suc n)) ok) (omega arith) (λ r. omega (arith, o r)))))

-- ---- the three moves

module _ (ls : List ℕ) (fs ns fs' ns' : ℕ → ℕ) (E i : ℕ) (s : Linked ls fs ns E) (bi : i < E)
    (fo : (j : ℕ) → j < E → (j ≡ i → ⊥) → fs' j ≡ fs j) (no : (j : ℕ) → j < E → (j ≡ i → ⊥) → ns' j ≡ ns j) where
  pub erase : ns' i ≡ 0 → Change ls (set_all ls (chain ls (fs i) (ns i)) 65535) fs ns fs' ns' E i (chain ls (fs i) (ns i)) []
  erase z = record {
    here = bi;
    was = refl;
    now = rw z;
    firsts = fo;
    counts = no;
    long = length-set_all ls (chain ls (fs i) (ns i)) 65535;
    kept = λ q b o n. set_all-out ls (chain ls (fs i) (ns i)) 65535 q o;
    whence = λ q b n. absurd (omega arith);
    once = λ q. omega arith;
    ok = λ n. absurd (n z);
    gone = λ q b o n. set_all-in ls (chain ls (fs i) (ns i)) 65535 q b o;
    held = λ q b n. absurd (omega arith);
  }

  pub start : (q : ℕ) → q < length ls → get_or ls q 0 ≡ 65535 → ns i ≡ 0 → fs' i ≡ q → ns' i ≡ 1 → Change ls (set ls q 65534) fs ns fs' ns' E i [] (q ∷ [])
  start q bq f z e o = record {
    here = bi;
    was = rw z;
    now = rw (o, e);
    firsts = fo;
    counts = no;
    long = length-set ls q 65534;
    kept = λ r b _ n. get_or-set_other ls q r 65534 0 (λ k. omega (arith, one-yes q r (sym k)));
    whence = λ r b n. inr (rw (one_in q r n) at f);
    once = one-le q;
    ok = λ n. rw (o, e) (rw (length-set ls q 65534, get_or-set_same ls q 65534 0 bq, lt-ltb q (length ls) bq));
    gone = λ r b k. absurd (omega arith);
    held = λ r b n k. omega (arith, sym (get_or-set_same ls q 65534 0 bq) ∙ (rw (← (one_in q r n)) at k));
  }

  pub grow : (q m : ℕ) → q < length ls → length ls ≤ 2024 → get_or ls q 0 ≡ 65535 → ns i ≡ suc m → fs' i ≡ fs i → ns' i ≡ suc (suc m)
      → Change ls (hung ls (walk ls (fs i) m) q) fs ns fs' ns' E i (chain ls (fs i) (suc m)) (chain ls (fs i) (suc m) ++ (q ∷ []))
  grow q m bq small f n e o =
      let ok : chain_ok ls (fs i) (suc m) ≡ true = rw n at (s.chained i bi (λ k. omega (arith, n, k))) in
      let out : times q (chain ls (fs i) (suc m)) ≡ 0 = rw n at (free-out ls fs ns E s i bi q bq f) in
      let once : ((r : ℕ) → times r (chain ls (fs i) (suc m)) ≤ 1) = rw n at (held-once ls fs ns E s i bi) in
      let both : ((r : ℕ) → times r (chain ls (fs i) (suc m) ++ (q ∷ [])) ≡ times r (chain ls (fs i) (suc m)) + times r (q ∷ [])) = λ r. times-append r (chain ls (fs i) (suc m)) (q ∷ []) in
      let last : 0 < times (walk ls (fs i) m) (chain ls (fs i) (suc m)) = last-in ls (fs i) m in
      let old-free : ((r : ℕ) → r < length ls → 0 < times r (chain ls (fs i) (suc m)) → get_or ls r 0 ≡ 65535 → ⊥) =
      λ r b h k. omega (arith, let g : times r (chain ls (fs i) (suc m)) ≡ 0 = rw n at (free-out ls fs ns E s i bi r b k) in g) in
      record {
        here = bi;
        was = rw n;
        now = rw (e, o) (hung-chain ls q bq (fs i) m ok out once);
        firsts = fo;
        counts = no;
        long = length-hung ls q bq (walk ls (fs i) m);
        kept = λ r b z w. hung-other ls q bq (walk ls (fs i) m) r
            (λ k. omega (arith, both r, one-yes q r (sym k)))
            (λ k. omega (arith, ap (λ (x : ℕ). times x (chain ls (fs i) (suc m))) k));
        whence = λ r b w. ⊎_elim
            (λ (z : times r (chain ls (fs i) (suc m)) ≡ 0). inr (rw (one_in q r (omega (arith, both r))) at f))
            (λ (z : times r (chain ls (fs i) (suc m)) ≡ 0 → ⊥). inl (omega arith))
            (same? (times r (chain ls (fs i) (suc m))) 0);
        once = λ r. ⊎_elim
            (λ (k : q ≡ r). omega (arith, both r, one-le q r, ap (λ (x : ℕ). times x (chain ls (fs i) (suc m))) k))
            (λ (k : q ≡ r → ⊥). omega (arith, both r, one-no q r k, once r))
            (same? q r);
        ok = λ z. rw (e, o) (hung-ok ls q bq (fs i) m ok out once);
        gone = λ r b z w. absurd (omega (arith, both r));
        held = λ r b w k. ⊎_elim
            (λ (x : r ≡ q). omega (arith, sym (hung-new ls q bq (walk ls (fs i) m)) ∙ (rw x at k)))
            (λ (x : r ≡ q → ⊥). ⊎_elim
            (λ (y : r ≡ walk ls (fs i) m). omega (arith, sym (hung-last ls q bq (walk ls (fs i) m) (rw y at b) (rw y at x)) ∙ (rw y at k)))
            (λ (y : r ≡ walk ls (fs i) m → ⊥). old-free r b (omega (arith, both r, one-no q r (λ z. x (sym z)))) (sym (hung-other ls q bq (walk ls (fs i) m) r x y) ∙ k))
            (same? r (walk ls (fs i) m)))
            (same? r q);
      }
