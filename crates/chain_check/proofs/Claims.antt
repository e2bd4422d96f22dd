-- The walk over all entries that marks their portions decides `links_ok`.
use mathlib.Core.Path.{◌≡◌, refl, sym, ap, ◌∙◌}
use mathlib.Core.List.{List}
use mathlib.Core.Bool.{Bool, true, false, ◌&&◌, ◌||◌, cond, false≢true}
use mathlib.Core.Logic.{⊎_elim}
use Prim.Native.Nat.{ℕ, zero, suc, ◌+◌, ◌≤◌, ◌<◌}
use native.Mathlib.Omega.{arith}
use native.Mathlib.Numerals.{add-one}
use lib.ListN.{length, get_or, set, length-set}
use lib.Seq.{get_or-set_same, get_or-set_other}
use lib.Dec.{eqb, ltb}
use borrow.Author.Tests.{eq-eqb, ne_eqb, eqb-true, ltb-true}
use Rattle.cells.specs.Count.{times, sum_to, all_to, set_all}
use Rattle.store.specs.Chain.{chain, chain_ok}
use Rattle.store_sound.specs.Sound.{portion_ok, links_ok}
use Rattle.ground.proofs.Tests.{is_false, same?, and_left, and_right, and_both}
use Rattle.chain_check.specs.Claim.{claim_ok, mark_fits, claim_entry, Claimed}
use Rattle.cells.proofs.Counts.{one-yes, one-no, all_of}
use Rattle.store_sound.proofs.Linked.{linked-facts, at_most, or_yes, or_no}

-- ---- one chain

pub claim-chain : (ls ms : List ℕ) (p n : ℕ) → claim_ok ls ms p n ≡ true → chain_ok ls p n ≡ true
claim-chain ls ms p zero h = h
claim-chain ls ms p (suc n) h =
    let r = and_right (ltb p (length ls)) _ h in
    and_both (ltb p (length ls)) _ (and_left (ltb p (length ls)) (eqb (get_or ms p 0) 0 && claim_ok ls (set ms p 1) (get_or ls p 0) n) h)
    (claim-chain ls (set ms p 1) (get_or ls p 0) n (and_right (eqb (get_or ms p 0) 0) _ r))

pub claim-marks : (ls ms : List ℕ) (p n : ℕ) → length ls ≤ length ms → claim_ok ls ms p n ≡ true
    → (q : ℕ) → get_or (set_all ms (chain ls p n) 1) q 0 ≡ get_or ms q 0 + times q (chain ls p n)
claim-marks ls ms p zero l h q = omega arith
claim-marks ls ms p (suc n) l h q =
    let b = ltb-true p (length ls) (and_left (ltb p (length ls)) (eqb (get_or ms p 0) 0 && claim_ok ls (set ms p 1) (get_or ls p 0) n) h) in
    let r = and_right (ltb p (length ls)) _ h in
    let z = eqb-true (get_or ms p 0) 0 (and_left (eqb (get_or ms p 0) 0) (claim_ok ls (set ms p 1) (get_or ls p 0) n) r) in
    let ih = claim-marks ls (set ms p 1) (get_or ls p 0) n (rw length-set l) (and_right (eqb (get_or ms p 0) 0) _ r) q in
    ⊎_elim
    (λ (e : p ≡ q). omega (arith, ih, one-yes p q e, (ap (λ (x : ℕ). get_or (set ms p 1) x 0) (sym e) ∙ get_or-set_same ms p 1 0 (omega arith)), (ap (λ (x : ℕ). get_or ms x 0) (sym e) ∙ z)))
    (λ (ne : p ≡ q → ⊥). omega (arith, ih, one-no p q ne, get_or-set_other ms p q 1 0 (λ e. ne (sym e))))
    (same? p q)

pub claim-yes : (ls ms : List ℕ) (p n : ℕ) → length ls ≤ length ms → chain_ok ls p n ≡ true
    → ((q : ℕ) → q < length ls → get_or ms q 0 + times q (chain ls p n) ≤ 1) → claim_ok ls ms p n ≡ true
claim-yes ls ms p zero l h o = h
claim-yes ls ms p (suc n) l h o =
    let t = and_left (ltb p (length ls)) (chain_ok ls (get_or ls p 0) n) h in
    let b = ltb-true p (length ls) t in
    let z : get_or ms p 0 ≡ 0 = omega (arith, o p b, one-yes p p refl) in
    and_both (ltb p (length ls)) _ t
    (and_both (eqb (get_or ms p 0) 0) _ (eq-eqb (get_or ms p 0) 0 z)
    (claim-yes ls (set ms p 1) (get_or ls p 0) n (rw length-set l) (and_right (ltb p (length ls)) _ h) (λ q bq. ⊎_elim
    (λ (e : p ≡ q). omega (arith, o q bq, one-yes p q e, (ap (λ (x : ℕ). get_or (set ms p 1) x 0) (sym e) ∙ get_or-set_same ms p 1 0 (omega arith))))
    (λ (ne : p ≡ q → ⊥). omega (arith, o q bq, one-no p q ne, get_or-set_other ms p q 1 0 (λ e. ne (sym e))))
    (same? p q))))

-- ---- all chains

sum_more : (f : ℕ → ℕ) (i n : ℕ) → i ≤ n → sum_to f i ≤ sum_to f n
sum_more f zero zero h = omega arith
sum_more f zero (suc n) h = omega arith
sum_more f (suc i) zero h = absurd (omega arith)
sum_more f (suc i) (suc n) h = ⊎_elim
    (λ (e : i ≡ n). rw e (omega arith))
    (λ (ne : i ≡ n → ⊥). omega (arith, sum_more f (suc i) n (omega arith)))
    (same? i n)

module _ (ls : List ℕ) (fs ns : ℕ → ℕ) where
  -- one entry more
  pub claimed-more : (ms ms' : List ℕ) (i : ℕ) → length ls ≤ length ms → claim_entry ls ms (fs i) (ns i) ≡ true → ms' ≡ set_all ms (chain ls (fs i) (ns i)) 1
      → Claimed ls fs ns i ms → Claimed ls fs ns (i + 1) ms'
  unfolding claim_entry
  claimed-more ms ms' i l h e c = rw (add-one i) (record {
    chained = λ j b n. ⊎_elim
        (λ (x : j ≡ i). rw x (claim-chain ls ms (fs i) (ns i) (sym (or_no (ns i) 0 _ (rw x at n)) ∙ h)))
        (λ (x : j ≡ i → ⊥). c.chained j (omega arith) n)
        (same? j i);
    marked = λ q b. ap (λ (x : List ℕ). get_or x q 0) e ∙ ⊎_elim
        (λ (z : ns i ≡ 0).
        let w : times q (chain ls (fs i) (ns i)) ≡ 0 = rw z refl in
        let v : get_or (set_all ms (chain ls (fs i) (ns i)) 1) q 0 ≡ get_or ms q 0 = rw z refl in
        omega (arith, c.marked q b))
        (λ (n : ns i ≡ 0 → ⊥). claim-marks ls ms (fs i) (ns i) l (sym (or_no (ns i) 0 _ n) ∙ h) q ∙ (omega (arith, c.marked q b)))
        (same? (ns i) 0);
  })

  -- where the links are sound, every claim is met
  pub claimed-not : (ms : List ℕ) (i E : ℕ) → i < E → length ls ≤ length ms → claim_entry ls ms (fs i) (ns i) ≡ false → Claimed ls fs ns i ms → links_ok ls fs ns E ≡ false
  unfolding claim_entry
  claimed-not ms i E b l h c = is_false (links_ok ls fs ns E) (λ t.
      let s = linked-facts ls fs ns E t in
      let y : (eqb (ns i) 0 || claim_ok ls ms (fs i) (ns i)) ≡ true = ⊎_elim
      (λ (z : ns i ≡ 0). or_yes (ns i) 0 _ z)
      (λ (n : ns i ≡ 0 → ⊥). or_no (ns i) 0 _ n ∙ claim-yes ls ms (fs i) (ns i) l (s.chained i b n) (λ q bq.
      omega (arith, c.marked q bq, at_most ls fs ns E s q bq, sum_more (λ (j : ℕ). times q (chain ls (fs j) (ns j))) (suc i) E b)))
      (same? (ns i) 0) in
      false≢true (sym h ∙ y))

  all_same : (f g : ℕ → Bool) (n : ℕ) → ((i : ℕ) → i < n → f i ≡ g i) → all_to f n ≡ all_to g n
  all_same f g zero h = refl
  all_same f g (suc n) h = rw (all_same f g n (λ i b. h i (omega arith)), h n (omega arith))

  pub claimed-all : (ms : List ℕ) (E : ℕ) → Claimed ls fs ns E ms → all_to (mark_fits ls ms) (length ls) ≡ links_ok ls fs ns E
  unfolding links_ok portion_ok
  claimed-all ms E c =
      let cs : all_to (λ (i : ℕ). eqb (ns i) 0 || chain_ok ls (fs i) (ns i)) E ≡ true = all_of (λ (i : ℕ). eqb (ns i) 0 || chain_ok ls (fs i) (ns i)) E (λ i b. ⊎_elim
      (λ (z : ns i ≡ 0). or_yes (ns i) 0 _ z) (λ (n : ns i ≡ 0 → ⊥). or_no (ns i) 0 _ n ∙ c.chained i b n) (same? (ns i) 0)) in
      rw cs (all_same (mark_fits ls ms) (portion_ok ls fs ns E) (length ls) (λ q b. ap (λ (x : ℕ). eqb x (cond (eqb (get_or ls q 0) 65535) 0 1)) (c.marked q b)))

-- ---- the marks, portion by portion

pub fits-free : (ls ms : List ℕ) (q : ℕ) → get_or ls q 0 ≡ 65535 → mark_fits ls ms q ≡ eqb (get_or ms q 0) 0
fits-free ls ms q e = rw (eq-eqb (get_or ls q 0) 65535 e)

pub fits-taken : (ls ms : List ℕ) (q : ℕ) → (get_or ls q 0 ≡ 65535 → ⊥) → mark_fits ls ms q ≡ eqb (get_or ms q 0) 1
fits-taken ls ms q n = rw (ne_eqb (get_or ls q 0) 65535 n)

pub fits_more : (ls ms : List ℕ) (q : ℕ) → all_to (mark_fits ls ms) q ≡ true → mark_fits ls ms q ≡ true → all_to (mark_fits ls ms) (q + 1) ≡ true
fits_more ls ms q a b = rw (add-one q) (and_both (all_to (mark_fits ls ms) q) _ a b)

pub entry-none : (ls ms : List ℕ) (f k r : ℕ) → r ≡ k → r ≡ 0 → (true ≡ claim_entry ls ms f k) × (ms ≡ set_all ms (chain ls f k) 1)
unfolding claim_entry
entry-none ls ms f k r e z = (sym (or_yes k 0 _ (sym e ∙ z)), rw (sym e ∙ z))

pub entry-some : (ls ms ms' : List ℕ) (f k f' k' : ℕ) (r : Bool) → f' ≡ f → k' ≡ k → (k' ≡ 0 → ⊥) → r ≡ claim_ok ls ms f' k' → (r ≡ true → ms' ≡ set_all ms (chain ls f' k') 1)
    → (r ≡ claim_entry ls ms f k) × (r ≡ true → ms' ≡ set_all ms (chain ls f k) 1)
unfolding claim_entry
entry-some ls ms ms' f k f' k' r ef ek n e m = (
  e ∙ rw (ef, ek) (sym (or_no k 0 _ (λ z. n (ek ∙ z)))),
  λ t. m t ∙ rw (ef, ek),
)

-- before the first entry
pub claimed-zero : (ls ms : List ℕ) (fs ns : ℕ → ℕ) → ((q : ℕ) → get_or ms q 0 ≡ 0) → Claimed ls fs ns 0 ms
claimed-zero ls ms fs ns h = record { chained = λ i b n. absurd (omega arith); marked = λ q b. h q }

pub zeros-all : (n q : ℕ) → ◌≡◌ {A = ℕ} (get_or (lib.ListN.replicate n 0) q 0) 0
zeros-all zero q = refl
zeros-all (suc n) zero = refl
zeros-all (suc n) (suc q) = zeros-all n q
