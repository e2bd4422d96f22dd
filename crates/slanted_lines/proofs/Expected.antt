-- What a reader expects of the definitions: the cross product and the foot are those of the ways (x - a, y - b) and (d - a, e - b), equal ends make a
-- disc, a level or upright line is 2 (c / 2) + 1 dots thick, and a line is the same from its other end and wherever R moves it.
-- (That rows and columns may be exchanged is `near-turned` of Near.antt.)
-- Assumes nothing.
use mathlib.Core.Path.{◌≡◌, refl, sym, ◌∙◌}
use mathlib.Core.Bool.{Bool, true, and_comm}
use mathlib.Core.Logic.{inl, inr}
use Prim.Native.Nat.{ℕ, zero, suc, ◌+◌, ◌-◌, ◌*◌, ◌/◌, ◌≤◌, ◌<◌, min, max}
use native.Mathlib.Nat.{mul-le-mul, le_of_mul-le-mul_right, mul-le-mul_right}
use native.Mathlib.Decide.{dec_lt}
use native.Mathlib.Omega.{arith}
use lib.Dec.{leb, ltb}
use borrow.Author.Tests.{leb-true, ltb-true, le-leb, lt-leb, lt-ltb, le-ltb}
use Rattle.ground.proofs.Tests.{and-true}
use Rattle.dots.specs.Dots.{within}
use Rattle.dots.specs.Cases.{count_below}
use Rattle.dots.proofs.Shapes.{same_test}
use Rattle.slanted_lines.specs.Slanted.{gap, squared, cross, near, in_limits, slanted}
use Rattle.slanted_lines.proofs.Gaps.{Apart, apart, apart-square, gap_by, gap_same, gap-self, gap-at-most, at-most-gap, square_le}
use Rattle.slanted_lines.proofs.Near.{test, near-test, near-sym, near-turned, beside_first, beside-second, between_ends}
use Rattle.slanted_lines.proofs.Middle.{Inside, inside-gaps}

-- ---- the cross product and the foot
-- the cross product from the dot (0, 0) is x e - y d, without its sign, and it is the same wherever the three dots are moved together
pub cross-from-zero : (d e x y : ℕ) → cross 0 0 d e x y ≡ gap (x * e) (y * d)
unfolding cross
cross-from-zero d e x y = gap_same (x * e + y * 0 + 0 * d) (x * 0 + 0 * e + y * d) (x * e) (y * d) (omega arith)

pub cross-moved : (a b d e x y u v : ℕ) → cross (a + u) (b + v) (d + u) (e + v) (x + u) (y + v) ≡ cross a b d e x y
unfolding cross
cross-moved a b d e x y u v = gap_same _ _ (x * e + y * a + b * d) (x * b + a * e + y * d) (omega arith)

-- p + l - q is twice (x - a)(d - a) + (y - b)(e - b): so it is 0 or less just where the foot lies outside at (a, b)
pub foot : (a b d e x y : ℕ)
    → squared x y a b + squared a b d e + 2 * (x * a + a * d + (y * b + b * e)) ≡ squared x y d e + 2 * (x * d + a * a + (y * e + b * b))
unfolding squared
foot a b d e x y =
    let s = apart-square x a (gap x a) (apart x a) in
    let t = apart-square a d (gap a d) (apart a d) in
    let u = apart-square x d (gap x d) (apart x d) in
    let v = apart-square y b (gap y b) (apart y b) in
    let w = apart-square b e (gap b e) (apart b e) in
    let z = apart-square y e (gap y e) (apart y e) in omega arith

-- ---- "Equal ends make a disc"
no_length : (a b : ℕ) → squared a b a b ≡ 0
unfolding squared
no_length a b = rw (gap-self a, gap-self b)

pub disc : (a b c x y : ℕ) → near a b c a b x y ≡ leb (4 * squared x y a b) (c * c)
disc a b c x y =
    near-test a b c a b x y
    ∙ beside_first c (squared x y a b) (squared x y a b) (squared a b a b) (cross a b a b x y) (omega (arith, no_length a b))

-- ---- the thickness
-- of a dot g rows from a level line, u and v columns from its ends
squares-test : (g c l : ℕ) → 0 < l → leb (4 * (g * g) * l) (c * c * l) ≡ leb (2 * g) c
squares-test g c l z =
    same_test _ _
    (λ h. le-leb (2 * g) c (square_le (2 * g) c (let k = le_of_mul-le-mul_right {k = l} (leb-true (4 * (g * g) * l) (c * c * l) h) z in omega arith)))
    (λ h. let i = leb-true (2 * g) c h in
    let k : 4 * (g * g) ≤ c * c = omega (arith, mul-le-mul i i) in le-leb _ _ (mul-le-mul_right l k))

level-test : (c p q l w u v g : ℕ) → p ≡ u * u + g * g → q ≡ v * v + g * g → l ≡ (u + v) * (u + v) → w ≡ g * (u + v) → test c p q l w ≡ leb (2 * g) c
level-test c p q l w u v g ep eq el ew = at (dec_lt q (p + l)) (dec_lt p (q + l))
  where
    one : c * c ≡ c * c * 1
    one = omega arith

    at : Dec (q < p + l) → Dec (p < q + l) → test c p q l w ≡ leb (2 * g) c
    at (no s) t =
        let e : 4 * p ≡ 4 * (g * g) * 1 = omega arith in
        beside_first c p q l w (omega arith) ∙ rw (e, one) (squares-test g c 1 (omega arith))
    at (yes s) (no t) =
        let e : 4 * q ≡ 4 * (g * g) * 1 = omega arith in
        beside-second c p q l w s (omega arith) ∙ rw (e, one) (squares-test g c 1 (omega arith))
    at (yes s) (yes t) =
        let e : 4 * (g * (u + v) * (g * (u + v))) ≡ 4 * (g * g) * ((u + v) * (u + v)) = omega arith in
        between_ends c p q l w s t ∙ rw (ew, el, e) (squares-test g c ((u + v) * (u + v)) (omega arith))

cross-level : (a b d x y g m : ℕ) → Apart y b g → Apart a d m → cross a b d b x y ≡ g * m
unfolding cross
cross-level a b d x y g m (inl i) (inl j) = rw (i, j) (gap_by _ _ (g * m) (inl (omega arith)))
cross-level a b d x y g m (inl i) (inr j) = rw (i, j) (gap_by _ _ (g * m) (inr (omega arith)))
cross-level a b d x y g m (inr i) (inl j) = rw (i, j) (gap_by _ _ (g * m) (inr (omega arith)))
cross-level a b d x y g m (inr i) (inr j) = rw (i, j) (gap_by _ _ (g * m) (inl (omega arith)))

-- between the ends of a level line a dot is near just where its row is at most half of c from the line's; and so with the columns of an upright line
pub level-thickness : (a b c d x y : ℕ) → min a d ≤ x → x ≤ max a d → near a b c d b x y ≡ leb (2 * gap y b) c
unfolding squared
level-thickness a b c d x y h k = at (dec_lt d a)
  where
    with-gaps : (u v : ℕ) → Inside a d x u v → near a b c d b x y ≡ leb (2 * gap y b) c
    with-gaps u v I =
        let g = inside-gaps a d x u v I in
        near-test a b c d b x y
        ∙ level-test c (squared x y a b) (squared x y d b) (squared a b d b) (cross a b d b x y) u v (gap y b) (rw g.0) (rw g.1) (rw (g.2, gap-self b) (omega arith))
        (cross-level a b d x y (gap y b) (gap a d) (apart y b) (apart a d) ∙ rw g.2)

    at : Dec (d < a) → near a b c d b x y ≡ leb (2 * gap y b) c
    at (no z) = with-gaps (x - a) (d - x) (inl (omega arith, omega arith))
    at (yes z) = with-gaps (a - x) (x - d) (inr (omega arith, omega arith))

pub upright-thickness : (a b c e x y : ℕ) → min b e ≤ y → y ≤ max b e → near a b c a e x y ≡ leb (2 * gap x a) c
upright-thickness a b c e x y h k = near-turned a b c a e x y ∙ level-thickness b a c e y x h k

-- these are the rows from b - c / 2 to b + c / 2: of the first n rows, 2 (c / 2) + 1, where neither edge is nearer
pub thick-rows : (b c y : ℕ) → leb (2 * gap y b) c ≡ within (b - c / 2) (b + c / 2 + 1) y
thick-rows b c y =
    same_test _ _
    (λ h. let k = at-most-gap y b (c / 2) (omega (arith, leb-true (2 * gap y b) c h)) in
    rw (le-leb (b - c / 2) y (omega arith), lt-ltb y (b + c / 2 + 1) (omega arith)))
    (λ h. let k = and-true (leb (b - c / 2) y) (ltb y (b + c / 2 + 1)) h in
    let i = leb-true (b - c / 2) y k.0 in
    let j = ltb-true y (b + c / 2 + 1) k.1 in
    le-leb (2 * gap y b) c (omega (arith, gap-at-most y b (c / 2) (omega arith) (omega arith))))

count-ext : (n : ℕ) (f g : ℕ → Bool) → ((k : ℕ) → f k ≡ g k) → count_below n f ≡ count_below n g
count-ext zero f g e = refl
count-ext (suc n) f g e = rw (e n, count-ext n f g e)

count-within : (n from to : ℕ) → from ≤ to → count_below n (within from to) ≡ min n to - min n from
count-within zero from to h = omega arith
count-within (suc n) from to h = at (count-within n from to h) (dec_lt n from) (dec_lt n to)
  where
    at : count_below n (within from to) ≡ min n to - min n from → Dec (n < from) → Dec (n < to)
        → count_below (suc n) (within from to) ≡ min (suc n) to - min (suc n) from
    at e (yes s) t = rw (lt-leb from n s) (omega arith)
    at e (no s) (yes t) = rw (le-leb from n (omega arith), lt-ltb n to t) (omega arith)
    at e (no s) (no t) = rw (le-leb from n (omega arith), le-ltb n to (omega arith)) (omega arith)

pub thickness : (n b c : ℕ) → c / 2 ≤ b → b + c / 2 < n → count_below n (λ y. leb (2 * gap y b) c) ≡ 2 * (c / 2) + 1
thickness n b c h k =
    count-ext n (λ y. leb (2 * gap y b) c) (within (b - c / 2) (b + c / 2 + 1)) (thick-rows b c)
    ∙ count-within n (b - c / 2) (b + c / 2 + 1) (omega arith) ∙ omega arith

-- ---- lines moved, turned round, and within their limits
squared-moved : (x y a b u v : ℕ) → squared (x + u) (y + v) (a + u) (b + v) ≡ squared x y a b
unfolding squared
squared-moved x y a b u v = rw (gap_same (x + u) (a + u) x a (omega arith), gap_same (y + v) (b + v) y b (omega arith))

-- "R is added to both ends": it only moves the line
pub near-moved : (a b c d e x y u v : ℕ) → near (a + u) (b + v) c (d + u) (e + v) (x + u) (y + v) ≡ near a b c d e x y
near-moved a b c d e x y u v =
    near-test (a + u) (b + v) c (d + u) (e + v) (x + u) (y + v)
    ∙ (λ i. test c (squared-moved x y a b u v i) (squared-moved x y d e u v i) (squared-moved a b d e u v i) (cross-moved a b d e x y u v i))
    ∙ sym (near-test a b c d e x y)

-- the ends may change places
limits-sym : (a b c d e : ℕ) → in_limits a b c d e ≡ in_limits d e c a b
unfolding in_limits
limits-sym a b c d e = rw (and_comm (leb a 4095) (leb d 4095), and_comm (leb b 8191) (leb e 8191))

pub slanted-sym : (a b c d e x y : ℕ) → slanted a b c d e x y ≡ slanted d e c a b x y
unfolding slanted
slanted-sym a b c d e x y = rw (limits-sym a b c d e, near-sym a b c d e x y)

pub slanted-is-near : (a b c d e x y : ℕ) → in_limits a b c d e ≡ true → slanted a b c d e x y ≡ near a b c d e x y
unfolding slanted
slanted-is-near a b c d e x y h = rw h
