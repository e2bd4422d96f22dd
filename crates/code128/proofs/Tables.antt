-- A test over a table, carried to each of its rows; and the table of Code 128 as the one list of numbers that the code has.
-- Assumes nothing.
use mathlib.Core.Path.{◌≡◌, refl, sym, ap, subst, ◌∙◌}
use mathlib.Core.Bool.{Bool, true, false, ◌&&◌}
use mathlib.Core.List.{List, [], ◌∷◌, ◌++◌, map, append_assoc}
use Prim.Native.Nat.{ℕ, zero, suc, ◌+◌, ◌-◌, ◌*◌, ◌/◌, ◌%◌, ◌≤◌, ◌<◌}
use native.Mathlib.Decide.{ℕ_discrete}
use native.Mathlib.Nat.{le_of_suc-le-suc, mod-eq_of_lt}
use native.Mathlib.Omega.{arith}
use lib.Dec.{T, ltb, eqb, ltb→lt, eqb→eq}
use lib.ListN.{length, get_or, length-append, get_or-append, get_or-eq_default}
use lib.Seq.{get_or-append-add}
use Rattle.code128.specs.Widths.{digits, each}
use Rattle.code128.specs.Code128.{rows128}

-- ---- tests

pub and_left : (a b : Bool) → T (a && b) → T a
and_left true b t = tt
and_left false b t = t

pub and_right : (a b : Bool) → T (a && b) → T b
and_right true b t = t
and_right false b t = absurd t

-- the test holds of each row
abbrev pub all : (ℕ → Bool) → List ℕ → Bool
all f [] = true
all f (r ∷ rs) = f r && all f rs

pub all-at : (f : ℕ → Bool) (rs : List ℕ) → T (all f rs) → (v : ℕ) → v < length rs → T (f (get_or rs v 0))
all-at f [] t v h = absurd (omega arith)
all-at f (r ∷ rs) t zero h = and_left (f r) (all f rs) t
all-at f (r ∷ rs) t (suc v) h = all-at f rs (and_right (f r) (all f rs) t) v (le_of_suc-le-suc h)

-- two lists are the same
abbrev pub same : List ℕ → List ℕ → Bool
same [] [] = true
same [] (y ∷ ys) = false
same (x ∷ xs) [] = false
same (x ∷ xs) (y ∷ ys) = eqb x y && same xs ys

pub same-eq : (xs ys : List ℕ) → T (same xs ys) → xs ≡ ys
same-eq [] [] t = refl
same-eq [] (y ∷ ys) t = absurd t
same-eq (x ∷ xs) [] t = absurd t
same-eq (x ∷ xs) (y ∷ ys) t =
    ap (λ k. k ∷ xs) (eqb→eq x y (and_left (eqb x y) (same xs ys) t)) ∙ ap (λ k. y ∷ k) (same-eq xs ys (and_right (eqb x y) (same xs ys) t))

-- the test holds of each number below n
abbrev pub below : (ℕ → Bool) → ℕ → Bool
below f zero = true
below f (suc n) = f n && below f n

pub below_at : (f : ℕ → Bool) (n : ℕ) → T (below f n) → (k : ℕ) → k < n → T (f k)
below_at f zero t k h = absurd (omega arith)
below_at f (suc n) t k h =
    elim (ℕ_discrete k n) [
      | yes e ↦ subst (λ m. T (f m)) (sym e) (and_left (f n) (below f n) t)
      | no d ↦ below_at f n (and_right (f n) (below f n) t) k (omega arith)
    ]

-- ---- a row that is not there

pub past-rows : (rows : List ℕ) (v w : ℕ) → length rows ≤ v → v ≡ w → 0 ≡ get_or rows w 0
past-rows rows v w h e = sym (get_or-eq_default rows 0 (rw e at h))

-- ---- rows side by side

-- number j of row v
pub each_at : (f : ℕ → List ℕ) (m : ℕ) → ((r : ℕ) → length (f r) ≡ m) → (rs ys : List ℕ) (v j : ℕ) → v < length rs → j < m
    → get_or (each f rs ++ ys) (v * m + j) 0 ≡ get_or (f (get_or rs v 0)) j 0
unfolding each
each_at f m l [] ys v j h i = absurd (omega arith)
each_at f m l (r ∷ rs) ys zero j h i =
    rw (get_or-append (f r ++ each f rs) ys 0 (zero * m + j) (omega (arith, length-append (f r) (each f rs), l r)))
    (get_or-append (f r) (each f rs) 0 (zero * m + j) (omega (arith, l r)) ∙ ap (λ k. get_or (f r) k 0) (omega arith))
each_at f m l (r ∷ rs) ys (suc v) j h i =
    let e : suc v * m + j ≡ length (f r) + (v * m + j) = omega (arith, l r) in
    ap (λ k. get_or (f r ++ each f rs ++ ys) k 0) e ∙ ap (λ xs. get_or xs (length (f r) + (v * m + j)) 0) (append_assoc (f r) (each f rs) ys)
    ∙ get_or-append-add (f r) (each f rs ++ ys) (v * m + j) 0 ∙ each_at f m l rs ys v j (le_of_suc-le-suc h) i

-- ---- Code 128

-- the rows' digits, as bytes
abbrev pub numbers : List ℕ
numbers = each (λ r. map (λ d. 48 + d) (digits 6 r)) rows128 ++ (50 ∷ [])

numbers-at : (v j : ℕ) → v < 107 → j < 6 → get_or numbers (v * 6 + j) 0 ≡ get_or (map (λ d. 48 + d) (digits 6 (get_or rows128 v 0))) j 0
unfolding rows128 digits
numbers-at v j h i = each_at (λ r. map (λ d. 48 + d) (digits 6 r)) 6 (λ r. refl) rows128 (50 ∷ []) v j h i

small : T (all (λ r. ltb r 1000000) rows128)
unfolding rows128
small = tt

length-rows : length rows128 ≡ 107
unfolding rows128
length-rows = refl

tenth : (r k : ℕ) → r < k * 10 → r / 10 < k
tenth r k h = omega arith

ten : (r : ℕ) → r ≡ r / 10 * 10 + r % 10
ten r = omega arith

joined : (r r1 r2 r3 r4 a b c d e f : ℕ) → r ≡ r1 * 10 + f → r1 ≡ r2 * 10 + e → r2 ≡ r3 * 10 + d → r3 ≡ r4 * 10 + c → r4 ≡ a * 10 + b
    → (a * 100 + b * 10 + c) * 1000 + (d * 100 + e * 10 + f) ≡ r
joined r r1 r2 r3 r4 a b c d e f p q s t u = omega arith

-- a number of six digits is made of them
six-digits : (r : ℕ) → r < 1000000
    → (r / 10 / 10 / 10 / 10 / 10 % 10 * 100 + r / 10 / 10 / 10 / 10 % 10 * 10 + r / 10 / 10 / 10 % 10) * 1000
    + (r / 10 / 10 % 10 * 100 + r / 10 % 10 * 10 + r % 10) ≡ r
six-digits r h =
    let r1 = r / 10 in
    let r2 = r1 / 10 in
    let r3 = r2 / 10 in
    let r4 = r3 / 10 in
    let top : r4 / 10 < 10 = tenth r4 10 (tenth r3 100 (tenth r2 1000 (tenth r1 10000 (tenth r 100000 h)))) in
    let last : r4 / 10 ≡ r4 / 10 % 10 = sym (mod-eq_of_lt top) in
    joined r r1 r2 r3 r4 (r4 / 10 % 10) (r4 % 10) (r3 % 10) (r2 % 10) (r1 % 10) (r % 10) (ten r) (ten r1) (ten r2) (ten r3) (ten r4 ∙ ap (λ k. k * 10 + r4 % 10) last)

-- six numbers of the table make a row
pub row-128 : (v a b c d e f : ℕ) → v < 107 → a ≡ get_or numbers (v * 6) 0 - 48 → b ≡ get_or numbers (v * 6 + 1) 0 - 48
    → c ≡ get_or numbers (v * 6 + 2) 0 - 48 → d ≡ get_or numbers (v * 6 + 3) 0 - 48 → e ≡ get_or numbers (v * 6 + 4) 0 - 48
    → f ≡ get_or numbers (v * 6 + 5) 0 - 48 → (a * 100 + b * 10 + c) * 1000 + (d * 100 + e * 10 + f) ≡ get_or rows128 v 0
unfolding digits
row-128 v a b c d e f h p q r s t u =
    let row = get_or rows128 v 0 in
    let top : row < 1000000 = ltb→lt row 1000000 (all-at (λ r. ltb r 1000000) rows128 small v (rw length-rows h)) in
    let at : (j x y : ℕ) → j < 6 → x ≡ get_or numbers (v * 6 + j) 0 - 48 → get_or (map (λ d. 48 + d) (digits 6 row)) j 0 ≡ 48 + y → x ≡ y =
    λ j x y i m n. m ∙ ap (λ k. k - 48) (numbers-at v j h i ∙ n) ∙ omega arith in
    let zero-at : a ≡ get_or numbers (v * 6 + 0) 0 - 48 = p ∙ ap (λ k. get_or numbers k 0 - 48) (omega arith) in
    rw (
      at 0 a (row / 10 / 10 / 10 / 10 / 10 % 10) (omega arith) zero-at refl,
      at 1 b (row / 10 / 10 / 10 / 10 % 10) (omega arith) q refl,
      at 2 c (row / 10 / 10 / 10 % 10) (omega arith) r refl,
      at 3 d (row / 10 / 10 % 10) (omega arith) s refl,
      at 4 e (row / 10 % 10) (omega arith) t refl,
      at 5 f (row % 10) (omega arith) u refl,
    ) (six-digits row top)

pub row-128-none : (v : ℕ) → 107 ≤ v → 0 ≡ get_or rows128 v 0
row-128-none v h = past-rows rows128 v v (rw length-rows h) refl
