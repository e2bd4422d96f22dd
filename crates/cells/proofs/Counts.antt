-- Laws of counting: `times`, `sum_to`, `all_to`, `set_all`.
use mathlib.Core.Path.{◌≡◌, refl, sym, ap, ◌∙◌}
use mathlib.Core.List.{List, [], ◌∷◌, ◌++◌}
use mathlib.Core.Bool.{Bool, true, false}
use mathlib.Core.Logic.{◌⊎◌, ⊎_elim}
use Prim.Native.Nat.{ℕ, zero, suc, ◌+◌, ◌≤◌, ◌<◌}
use native.Mathlib.Omega.{arith}
use native.Mathlib.Numerals.{add-one}
use lib.ListN.{length, get_or, drop, set, length-set, drop_of_length-le}
use lib.Seq.{drop-cons, get_or-set_same, get_or-set_other}
use lib.Dec.{eqb}
use borrow.Author.Tests.{eq-eqb, ne_eqb}
use Rattle.ground.proofs.Tests.{same?, and_left, and_right, and_both}
use Rattle.ground.specs.Numbers.{one}
use Rattle.cells.specs.Count.{times, sum_to, all_to, set_all}

pub one-yes : (a b : ℕ) → a ≡ b → one (eqb a b) ≡ 1
one-yes a b e = rw (eq-eqb a b e)

pub one-no : (a b : ℕ) → (a ≡ b → ⊥) → one (eqb a b) ≡ 0
one-no a b n = rw (ne_eqb a b n)

pub times-append : (q : ℕ) (a b : List ℕ) → times q (a ++ b) ≡ times q a + times q b
times-append q [] b = omega arith
times-append q (x ∷ a) b = omega (arith, times-append q a b)

-- ---- `set_all`

pub length-set_all : (l ps : List ℕ) (v : ℕ) → length (set_all l ps v) ≡ length l
length-set_all l [] v = refl
length-set_all l (p ∷ ps) v = length-set_all (set l p v) ps v ∙ length-set l p v

pub set_all-out : (l ps : List ℕ) (v q : ℕ) → times q ps ≡ 0 → get_or (set_all l ps v) q 0 ≡ get_or l q 0
set_all-out l [] v q h = refl
set_all-out l (p ∷ ps) v q h =
    let ne : q ≡ p → ⊥ = λ e. omega (arith, one-yes p q (sym e)) in
    set_all-out (set l p v) ps v q (omega arith) ∙ get_or-set_other l p q v 0 ne

pub set_all-in : (l ps : List ℕ) (v q : ℕ) → q < length l → 0 < times q ps → get_or (set_all l ps v) q 0 ≡ v
set_all-in l [] v q b h = absurd (omega arith)
set_all-in l (p ∷ ps) v q b h = ⊎_elim
    (λ (z : times q ps ≡ 0).
    let e : p ≡ q = ⊎_elim (λ (e : p ≡ q). e) (λ (n : p ≡ q → ⊥). absurd (omega (arith, one-no p q n))) (same? p q) in
    set_all-out (set l p v) ps v q z ∙ rw e (get_or-set_same l q v 0 b))
    (λ n. set_all-in (set l p v) ps v q (rw length-set b) (omega arith))
    (same? (times q ps) 0)

-- ---- `sum_to`

pub sum_same : (f g : ℕ → ℕ) (n : ℕ) → ((i : ℕ) → i < n → f i ≡ g i) → sum_to f n ≡ sum_to g n
sum_same f g zero h = refl
sum_same f g (suc n) h = omega (arith, sum_same f g n (λ i l. h i (omega arith)), h n (omega arith))

-- a change at one place
pub sum-change : (f g : ℕ → ℕ) (i n : ℕ) → i < n → ((j : ℕ) → j < n → (j ≡ i → ⊥) → f j ≡ g j) → sum_to f n + g i ≡ sum_to g n + f i
sum-change f g i zero b h = absurd (omega arith)
sum-change f g i (suc n) b h = ⊎_elim
    (λ (e : i ≡ n). rw e (omega (arith, sum_same f g n (λ j l. h j (omega arith) (omega arith)))))
    (λ (ne : i ≡ n → ⊥). omega (arith, sum-change f g i n (omega arith) (λ j l k. h j (omega arith) k), h n (omega arith) (λ k. ne (sym k))))
    (same? i n)

pub sum-has : (f : ℕ → ℕ) (i n : ℕ) → i < n → f i ≤ sum_to f n
sum-has f i zero b = absurd (omega arith)
sum-has f i (suc n) b = ⊎_elim (λ (e : i ≡ n). rw e (omega arith)) (λ (ne : i ≡ n → ⊥). omega (arith, sum-has f i n (omega arith))) (same? i n)

pub sum-has-two : (f : ℕ → ℕ) (i j n : ℕ) → i < n → j < n → (i ≡ j → ⊥) → f i + f j ≤ sum_to f n
sum-has-two f i j zero b d ne = absurd (omega arith)
sum-has-two f i j (suc n) b d ne = ⊎_elim
    (λ (e : i ≡ n). rw e (omega (arith, sum-has f j n (omega arith))))
    (λ (i≢ : i ≡ n → ⊥). ⊎_elim
    (λ (e : j ≡ n). rw e (omega (arith, sum-has f i n (omega arith))))
    (λ (j≢ : j ≡ n → ⊥). omega (arith, sum-has-two f i j n (omega arith) (omega arith) ne))
    (same? j n))
    (same? i n)

pub sum-none : (f : ℕ → ℕ) (n : ℕ) → ((i : ℕ) → i < n → f i ≡ 0) → sum_to f n ≡ 0
sum-none f zero h = refl
sum-none f (suc n) h = omega (arith, sum-none f n (λ i b. h i (omega arith)), h n (omega arith))

sum-zero : (n : ℕ) → sum_to (λ (q : ℕ). 0) n ≡ 0
sum-zero n = sum-none (λ (q : ℕ). 0) n (λ i b. refl)

pub sum-add : (f g : ℕ → ℕ) (n : ℕ) → sum_to (λ (i : ℕ). f i + g i) n ≡ sum_to f n + sum_to g n
sum-add f g zero = refl
sum-add f g (suc n) = omega (arith, sum-add f g n)

pub sum_ones : (f : ℕ → ℕ) (n : ℕ) → ((i : ℕ) → i < n → f i ≡ 1) → sum_to f n ≡ n
sum_ones f zero h = refl
sum_ones f (suc n) h = omega (arith, sum_ones f n (λ i b. h i (omega arith)), h n (omega arith))

pub sum-most : (f : ℕ → ℕ) (n : ℕ) → ((i : ℕ) → f i ≤ 1) → sum_to f n ≤ n
sum-most f zero h = omega arith
sum-most f (suc n) h = omega (arith, sum-most f n h, h n)

pub sum-swap : (f : ℕ → ℕ → ℕ) (m n : ℕ) → sum_to (λ (q : ℕ). sum_to (λ (j : ℕ). f q j) n) m ≡ sum_to (λ (j : ℕ). sum_to (λ (q : ℕ). f q j) m) n
sum-swap f zero n = sym (sum-zero n)
sum-swap f (suc m) n = omega (arith, sum-swap f m n, sum-add (λ (j : ℕ). sum_to (λ (q : ℕ). f q j) m) (λ (j : ℕ). f m j) n)

sum_first : (f : ℕ → ℕ) (n : ℕ) → sum_to f (suc n) ≡ f 0 + sum_to (λ (i : ℕ). f (suc i)) n
sum_first f zero = omega arith
sum_first f (suc n) = omega (arith, sum_first f n)

-- how often a number stands in a list, counted by places and by portions
pub times-places : (x : ℕ) (l : List ℕ) → times x l ≡ sum_to (λ (q : ℕ). one (eqb (get_or l q 0) x)) (length l)
times-places x [] = refl
times-places x (p ∷ ps) = omega (arith, times-places x ps, sum_first (λ (q : ℕ). one (eqb (get_or (p ∷ ps) q 0) x)) (length ps))

one_none : (p n : ℕ) → n ≤ p → sum_to (λ (q : ℕ). one (eqb p q)) n ≡ 0
one_none p zero h = refl
one_none p (suc n) h = omega (arith, one_none p n (omega arith), one-no p n (λ e. omega arith))

one-some : (p n : ℕ) → p < n → sum_to (λ (q : ℕ). one (eqb p q)) n ≡ 1
one-some p zero h = absurd (omega arith)
one-some p (suc n) h = ⊎_elim
    (λ (e : p ≡ n). omega (arith, one_none p n (omega arith), one-yes p n e))
    (λ (ne : p ≡ n → ⊥). omega (arith, one-some p n (omega arith), one-no p n ne))
    (same? p n)

pub times-portions : (ps : List ℕ) (n : ℕ) → ((q : ℕ) → 0 < times q ps → q < n) → sum_to (λ (q : ℕ). times q ps) n ≡ length ps
times-portions [] n h = sum-zero n
times-portions (p ∷ ps) n h =
    omega (
      arith,
      sum-add (λ (q : ℕ). one (eqb p q)) (λ (q : ℕ). times q ps) n,
      one-some p n (h p (omega (arith, one-yes p p refl))),
      times-portions ps n (λ q i. h q (omega arith)),
    )

-- ---- `all_to`

pub all-at : (f : ℕ → Bool) (n : ℕ) → all_to f n ≡ true → (i : ℕ) → i < n → f i ≡ true
all-at f zero h i b = absurd (omega arith)
all-at f (suc n) h i b = ⊎_elim
    (λ (e : i ≡ n). rw e (and_right (all_to f n) (f n) h))
    (λ (ne : i ≡ n → ⊥). all-at f n (and_left (all_to f n) (f n) h) i (omega arith))
    (same? i n)

pub all_of : (f : ℕ → Bool) (n : ℕ) → ((i : ℕ) → i < n → f i ≡ true) → all_to f n ≡ true
all_of f zero h = refl
all_of f (suc n) h = and_both (all_to f n) (f n) (all_of f n (λ i b. h i (omega arith))) (h n (omega arith))

pub all-not : (f : ℕ → Bool) (n i : ℕ) → i < n → f i ≡ false → all_to f n ≡ false
all-not f zero i b e = absurd (omega arith)
all-not f (suc n) i b e = ⊎_elim
    (λ (p : i ≡ n). rw (ap f (sym p) ∙ e) (mathlib.Core.Bool.and-false (all_to f n)))
    (λ (ne : i ≡ n → ⊥). rw (all-not f n i (omega arith) e))
    (same? i n)

-- ---- a pass over a list, standing at i

pub drop-step : (l : List ℕ) (i : ℕ) → i < length l → drop i l ≡ get_or l i 0 ∷ drop (i + 1) l
drop-step l i h = rw (add-one, drop-cons l i 0)

pub drop-none : (l : List ℕ) (i : ℕ) → length l ≤ i → drop i l ≡ []
drop-none l i h = drop_of_length-le l h

pub times-here : (q : ℕ) (l : List ℕ) (i : ℕ) → i < length l → get_or l i 0 ≡ q → times q (drop i l) ≡ 1 + times q (drop (i + 1) l)
times-here q l i h e = rw (drop-step l i h, eq-eqb (get_or l i 0) q e)

pub times-passed : (q : ℕ) (l : List ℕ) (i : ℕ) → i < length l → (get_or l i 0 ≡ q → ⊥) → times q (drop i l) ≡ 0 + times q (drop (i + 1) l)
times-passed q l i h n = rw (drop-step l i h, ne_eqb (get_or l i 0) q n)

pub times_none : (q : ℕ) (l : List ℕ) (i : ℕ) → length l ≤ i → times q (drop i l) ≡ 0
times_none q l i h = rw (drop-none l i h)

pub times-few : (q : ℕ) (l : List ℕ) → times q l ≤ length l
times-few q [] = omega arith
times-few q (x ∷ l) = ⊎_elim (λ (e : x ≡ q). omega (arith, one-yes x q e, times-few q l)) (λ (n : x ≡ q → ⊥). omega (arith, one-no x q n, times-few q l)) (same? x q)

-- what is counted stands somewhere
pub times-some : (q : ℕ) (l : List ℕ) → 0 < times q l → (i : ℕ) × ((i < length l) × (get_or l i 0 ≡ q))
times-some q [] h = absurd (omega arith)
times-some q (x ∷ l) h = ⊎_elim
    (λ (e : x ≡ q). (0, (omega arith, e)))
    (λ (n : x ≡ q → ⊥). let r = times-some q l (omega (arith, one-no x q n)) in (suc r.0, (omega (arith, r.1.0), r.1.1)))
    (same? x q)

pub all_more : (f : ℕ → Bool) (n : ℕ) → all_to f n ≡ true → f n ≡ true → all_to f (n + 1) ≡ true
all_more f n a b = rw (add-one n) (and_both (all_to f n) (f n) a b)
