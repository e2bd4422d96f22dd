-- Whole chains: a walk that ends has met no portion twice, and a chain has one length.
use mathlib.Core.Path.{◌≡◌, refl, sym, ap, ◌∙◌}
use mathlib.Core.List.{List}
use mathlib.Core.Bool.{true, false}
use mathlib.Core.Logic.{◌⊎◌, ⊎_elim}
use Prim.Native.Nat.{ℕ, zero, suc, ◌+◌, ◌-◌, ◌≤◌, ◌<◌}
use native.Mathlib.Omega.{arith}
use lib.ListN.{length, get_or}
use lib.Dec.{eqb, ltb}
use borrow.Author.Tests.{eq-eqb, ne_eqb, eqb-true, ltb-true}
use Rattle.cells.specs.Count.{times}
use Rattle.cells.proofs.Counts.{one-yes, one-no}
use Rattle.store.specs.Chain.{most_portions, end_link, free_link, chain, chain_ok}
use Rattle.ground.proofs.Tests.{either, same?, and_left, and_right}
use Rattle.store_sound.proofs.Frame.{chain-below}
use Rattle.store_sound.proofs.Content.{few}
use Rattle.store_sound.proofs.PutSound.{chain_length}
use Rattle.verdicts.specs.Verdicts.{walked}

module _ (ls : List ℕ) (small : length ls ≤ most_portions) where
  head : (p n : ℕ) → chain_ok ls p (suc n) ≡ true → p < length ls
  head p n h = ltb-true p (length ls) (and_left (ltb p (length ls)) (chain_ok ls (get_or ls p 0) n) h)

  tail : (p n : ℕ) → chain_ok ls p (suc n) ≡ true → chain_ok ls (get_or ls p 0) n ≡ true
  tail p n h = and_right (ltb p (length ls)) (chain_ok ls (get_or ls p 0) n) h

  -- a chain has one length
  chain-only : (p n m : ℕ) → chain_ok ls p n ≡ true → chain_ok ls p m ≡ true → n ≡ m
  chain-only p zero zero a b = refl
  chain-only p zero (suc m) a b = absurd (omega (arith, eqb-true p end_link a, head p m b))
  chain-only p (suc n) zero a b = absurd (omega (arith, eqb-true p end_link b, head p n a))
  chain-only p (suc n) (suc m) a b = ap suc (chain-only (get_or ls p 0) n m (tail p n a) (tail p m b))

  -- from each of its portions on a chain is one
  chain-from : (p n q : ℕ) → chain_ok ls p n ≡ true → 0 < times q (chain ls p n) → (m : ℕ) × ((suc m ≤ n) × (chain_ok ls q (suc m) ≡ true))
  chain-from p zero q h i = absurd (omega arith)
  chain-from p (suc n) q h i = ⊎_elim
      (λ (e : p ≡ q). (n, (omega arith, rw (← e) h)))
      (λ (ne : p ≡ q → ⊥).
      let r = chain-from (get_or ls p 0) n q (tail p n h) (omega (arith, one-no p q ne)) in
      (r.0, (omega (arith, r.1.0), r.1.1)))
      (same? p q)

  -- no portion comes twice
  pub chain-once : (p n : ℕ) → chain_ok ls p n ≡ true → (q : ℕ) → times q (chain ls p n) ≤ 1
  chain-once p zero h q = omega arith
  chain-once p (suc n) h q = ⊎_elim
      (λ (e : p ≡ q). ⊎_elim
      (λ (z : times q (chain ls (get_or ls p 0) n) ≡ 0). omega (arith, one-yes p q e))
      (λ (s : times q (chain ls (get_or ls p 0) n) ≡ 0 → ⊥). absurd (
      let r = chain-from (get_or ls p 0) n q (tail p n h) (omega arith) in
      omega (arith, chain-only q (suc r.0) (suc n) r.1.1 (rw e at h), r.1.0)))
      (same? (times q (chain ls (get_or ls p 0) n)) 0))
      (λ (ne : p ≡ q → ⊥). omega (arith, one-no p q ne, chain-once (get_or ls p 0) n (tail p n h) q))
      (same? p q)

  pub chain-most : (p n : ℕ) → chain_ok ls p n ≡ true → n ≤ length ls
  chain-most p n h = omega (arith, few (chain ls p n) (length ls) (chain-below ls p n h) (chain-once p n h), chain_length ls p n)

  -- no portion of a chain is free
  pub chain-taken : (p n q : ℕ) → chain_ok ls p n ≡ true → 0 < times q (chain ls p n) → get_or ls q 0 ≡ free_link → ⊥
  chain-taken p n q h i f =
      let r = chain-from p n q h i in
      go r.0 (tail q r.0 r.1.1)
    where
      go : (m : ℕ) → chain_ok ls (get_or ls q 0) m ≡ true → ⊥
      go zero c = omega (arith, eqb-true (get_or ls q 0) end_link c)
      go (suc m) c = omega (arith, head (get_or ls q 0) m c)

-- ---- the walk

-- a walk that ends has met a chain
walked-chain : (ls : List ℕ) (p k left r : ℕ) → walked ls p k left ≡ r → (r ≡ 0 → ⊥) → (k < r) × (chain_ok ls p (r - k) ≡ true)
unfolding walked
walked-chain ls p k zero r e n = absurd (n (sym e))
walked-chain ls p k (suc left) r e n = ⊎_elim
    (λ (b : ltb p (length ls) ≡ true). ⊎_elim
    (λ (z : eqb (get_or ls p 0) end_link ≡ true).
    let l : suc k ≡ r = rw (b, z) at e in
    (omega arith, rw (let w : r - k ≡ 1 = omega arith in w) (rw (b, z))))
    (λ (z : eqb (get_or ls p 0) end_link ≡ false).
    let h = walked-chain ls (get_or ls p 0) (suc k) left r (rw (b, z) at e) n in
    (omega (arith, h.0), rw (let w : r - k ≡ suc (r - suc k) = omega (arith, h.0) in w) (rw b h.1)))
    (either (eqb (get_or ls p 0) end_link)))
    (λ (b : ltb p (length ls) ≡ false). absurd (n (sym (rw b at e))))
    (either (ltb p (length ls)))

-- and meets every chain that is not too long for it
chain-walked : (ls : List ℕ) → length ls ≤ most_portions → (p k left n : ℕ) → chain_ok ls p (suc n) ≡ true → n < left → walked ls p k left ≡ k + suc n
unfolding walked
chain-walked ls small p k zero n h b = absurd (omega arith)
chain-walked ls small p k (suc left) zero h b =
    let z = eqb-true (get_or ls p 0) end_link (and_right (ltb p (length ls)) _ h) in
    rw (and_left (ltb p (length ls)) (eqb (get_or ls p 0) end_link) h, eq-eqb (get_or ls p 0) end_link z) (omega arith)
chain-walked ls small p k (suc left) (suc n) h b =
    let t = and_right (ltb p (length ls)) (chain_ok ls (get_or ls p 0) (suc n)) h in
    let s : get_or ls p 0 ≡ end_link → ⊥ = λ z. omega (arith, ltb-true (get_or ls p 0) (length ls) (and_left (ltb (get_or ls p 0) (length ls)) (chain_ok ls (get_or ls (get_or ls p 0) 0) n) t)) in
    rw (and_left (ltb p (length ls)) (chain_ok ls (get_or ls p 0) (suc n)) h, ne_eqb (get_or ls p 0) end_link s)
    (chain-walked ls small (get_or ls p 0) (suc k) left n t (omega arith) ∙ (let e : suc k + suc n ≡ k + suc (suc n) = omega arith in e))

-- how many portions an entry's chain has, from its first on
pub whole-chain : (ls : List ℕ) (p : ℕ) → (walked ls p 0 (length ls) ≡ 0 → ⊥) → chain_ok ls p (walked ls p 0 (length ls)) ≡ true
whole-chain ls p n =
    let h = walked-chain ls p 0 (length ls) (walked ls p 0 (length ls)) refl n in
    rw (let e : walked ls p 0 (length ls) - 0 ≡ walked ls p 0 (length ls) = omega arith in e) at h.1

pub chain-whole : (ls : List ℕ) → length ls ≤ most_portions → (p n : ℕ) → 0 < n → chain_ok ls p n ≡ true → walked ls p 0 (length ls) ≡ n
chain-whole ls small p zero b h = absurd (omega arith)
chain-whole ls small p (suc n) b h = chain-walked ls small p 0 (length ls) n h (omega (arith, chain-most ls small p (suc n) h)) ∙ (let e : 0 + suc n ≡ suc n = omega arith in e)
