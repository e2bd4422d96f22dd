-- Near dots lie in the rows of the line: no more than half of c above its upper end, and no more below its lower end. Where the foot
-- of a dot that is u rows past an end lies between the ends, the cross product is at least u times the length.
-- Assumes nothing.
use mathlib.Core.Path.{◌≡◌, sym, ◌∙◌}
use mathlib.Core.Bool.{true}
use mathlib.Core.Logic.{◌⊎◌, inl, inr}
use Prim.Native.Nat.{ℕ, zero, suc, ◌+◌, ◌-◌, ◌*◌, ◌≤◌, ◌<◌, min, max}
use native.Mathlib.Nat.{mul-le-mul_left, le_of_mul-le-mul_right}
use native.Mathlib.Decide.{dec_lt}
use native.Mathlib.Omega.{arith}
use Rattle.slanted_lines.specs.Slanted.{gap, squared, cross, near}
use Rattle.slanted_lines.proofs.Gaps.{Apart, apart, gap_by, gap-sym, gap_same, square_le}
use Rattle.slanted_lines.proofs.Near.{NearTold, near-told, near-sym}

-- ---- the cross product q n + u m
-- where u n is at most q m, it is at least u times the length: if it is small, u is no more than half of c
pub past-enough : (u n q m c : ℕ) → u * n ≤ q * m → 0 < m * m + n * n → 4 * ((q * n + u * m) * (q * n + u * m)) ≤ c * c * (m * m + n * n) → 2 * u ≤ c
past-enough u n q m c h z k =
    let s : u * n * (u * n) ≤ u * n * (q * m) = mul-le-mul_left (u * n) h in
    let t : 2 * u * (2 * u) * (m * m + n * n) ≤ c * c * (m * m + n * n) = omega arith in
    square_le (2 * u) c (le_of_mul-le-mul_right t z)

-- the column x is q beside k, and f is m beside g on the same side
pub cross-right : (x f k g u n q m : ℕ) → x ≡ k + q → f ≡ g + m → gap (x * n + u * f) (k * n + u * g) ≡ q * n + u * m
cross-right x f k g u n q m i j = rw (i, j) (gap_by ((k + q) * n + u * (g + m)) (k * n + u * g) (q * n + u * m) (inl (omega arith)))

pub cross-left : (x f k g u n q m : ℕ) → k ≡ x + q → g ≡ f + m → gap (x * n + u * f) (k * n + u * g) ≡ q * n + u * m
cross-left x f k g u n q m i j = gap-sym (x * n + u * f) (k * n + u * g) ∙ cross-right k g x f u n q m i j

-- ---- past an end, and between the ends by its foot
positive : (q m k n : ℕ) → k < q * m → 0 < m * m + n * n
positive q zero k n h = omega arith
positive q (suc m) k n h = omega arith

-- the columns x of the dot, k of that end and f of the other: p, q and m apart. The foot is past the end unless x and f are on one side of k
sides_apart : (p q m u n : ℕ) → p ≡ q + m → p * p + (u + n) * (u + n) < q * q + u * u + (m * m + n * n) → ⊥
sides_apart p q m u n e s = let t = rw e at s in omega arith

one_side : (p q m u n : ℕ) → Apart q m p → p * p + (u + n) * (u + n) < q * q + u * u + (m * m + n * n) → u * n < q * m
one_side p q m u n (inl e) s = let t = rw e at s in rw e (omega arith)
one_side p q m u n (inr e) s = let t = rw e at s in rw e (omega arith)

past : (x f k u n c p q m w : ℕ) → Apart x f p → Apart x k q → Apart f k m → p * p + (u + n) * (u + n) < q * q + u * u + (m * m + n * n)
    → w ≡ gap (x * n + u * f) (k * n + u * k) → 4 * (w * w) ≤ c * c * (m * m + n * n) → 2 * u ≤ c
past x f k u n c p q m w i g h s e t = at i g h
  where
    done : Apart q m p → gap (x * n + u * f) (k * n + u * k) ≡ q * n + u * m → 2 * u ≤ c
    done j z =
        let v = one_side p q m u n j s in
        past-enough u n q m c (omega arith) (positive q m (u * n) n v) (rw (e ∙ z) at t)

    at : Apart x f p → Apart x k q → Apart f k m → 2 * u ≤ c
    at (inl i) (inl g) (inl h) = done (inl (omega arith)) (cross-right x f k k u n q m g h)
    at (inr i) (inl g) (inl h) = done (inr (omega arith)) (cross-right x f k k u n q m g h)
    at (inl i) (inr g) (inr h) = done (inr (omega arith)) (cross-left x f k k u n q m g h)
    at (inr i) (inr g) (inr h) = done (inl (omega arith)) (cross-left x f k k u n q m g h)
    at (inl i) (inl g) (inr h) = absurd (sides_apart p q m u n (omega arith) s)
    at (inr i) (inl g) (inr h) = absurd (sides_apart p q m u n (omega arith) s)
    at (inl i) (inr g) (inl h) = absurd (sides_apart p q m u n (omega arith) s)
    at (inr i) (inr g) (inl h) = absurd (sides_apart p q m u n (omega arith) s)

-- ---- the rows
-- row y is u rows past the row e of an end, seen from the row b of the other, which is n rows before it: downward, or upward
abbrev Beyond : ℕ → ℕ → ℕ → ℕ → ℕ → Type 0
Beyond b e y n u = ((e ≡ b + n) × (y ≡ e + u)) ⊎ ((b ≡ e + n) × (e ≡ y + u))

cross-beyond : (a b d e x y n u : ℕ) → Beyond b e y n u → cross a b d e x y ≡ gap (x * n + u * a) (d * n + u * d)
unfolding cross
cross-beyond a b d e x y n u (inl (i, j)) = rw (j, i) (gap_same _ _ (x * n + u * a) (d * n + u * d) (omega arith))
cross-beyond a b d e x y n u (inr (i, j)) = rw (i, j) (gap-sym _ _ ∙ gap_same _ _ (x * n + u * a) (d * n + u * d) (omega arith))

-- a dot beside an end, v rows from it
pub row-end : (c p v : ℕ) → 4 * (p * p + v * v) ≤ c * c → 2 * v ≤ c
row-end c p v h = square_le (2 * v) c (omega arith)

beyond-gaps : (b e y n u : ℕ) → Beyond b e y n u → (gap y b ≡ u + n) × (gap y e ≡ u) × (gap b e ≡ n)
beyond-gaps b e y n u (inl (i, j)) = (gap_by y b (u + n) (inl (omega arith)), gap_by y e u (inl j), gap_by b e n (inr i))
beyond-gaps b e y n u (inr (i, j)) = (gap_by y b (u + n) (inr (omega arith)), gap_by y e u (inr j), gap_by b e n (inl i))

near-past : (a b c d e x y n u : ℕ) → Beyond b e y n u → near a b c d e x y ≡ true → 2 * u ≤ c
unfolding squared
near-past a b c d e x y n u B h = at (near-told a b c d e x y h)
  where
    g : (gap y b ≡ u + n) × (gap y e ≡ u) × (gap b e ≡ n)
    g = beyond-gaps b e y n u B

    at : NearTold a b c d e x y → 2 * u ≤ c
    at (inl k) = omega (arith, row-end c (gap x a) (u + n) (rw g.0 at k))
    at (inr (inl k)) = row-end c (gap x d) u (rw g.1 at k)
    at (inr (inr k)) =
        past x a d u n c (gap x a) (gap x d) (gap a d) (cross a b d e x y) (apart x a) (apart x d) (apart a d)
        (rw (g.0, g.1, g.2) at k.second) (cross-beyond a b d e x y n u B) (rw g.2 at k.small)

-- no near dot is more than half of c below the lower end, or above the upper end
module _ (a b c d e x y : ℕ) (h : near a b c d e x y ≡ true) where
  back : near d e c a b x y ≡ true
  back = sym (near-sym a b c d e x y) ∙ h

  pub near-below : 2 * y ≤ 2 * max b e + c
  near-below = at (dec_lt (max b e) y) (dec_lt e b)
    where
      at : Dec (max b e < y) → Dec (e < b) → 2 * y ≤ 2 * max b e + c
      at (no z) s = omega arith
      at (yes z) (no s) = omega (arith, near-past a b c d e x y (e - b) (y - e) (inl (omega arith)) h)
      at (yes z) (yes s) = omega (arith, near-past d e c a b x y (b - e) (y - b) (inl (omega arith)) back)

  pub near-above : 2 * min b e ≤ 2 * y + c
  near-above = at (dec_lt y (min b e)) (dec_lt e b)
    where
      at : Dec (y < min b e) → Dec (e < b) → 2 * min b e ≤ 2 * y + c
      at (no z) s = omega arith
      at (yes z) (yes s) = omega (arith, near-past a b c d e x y (b - e) (e - y) (inr (omega arith)) h)
      at (yes z) (no s) = omega (arith, near-past d e c a b x y (e - b) (b - y) (inr (omega arith)) back)
