-- Rows of a bitmap drawn byte by byte, where a figure is not turned and each dot is one dot wide.
-- Assumes nothing.
use mathlib.Core.Path.{◌≡◌, refl, sym, ap, ◌∙◌}
use mathlib.Core.Bool.{Bool, true, false, ◌&&◌, and-false}
use mathlib.Core.Logic.{◌⊎◌, inl, inr}
use mathlib.Core.List.{List}
use Prim.Native.Nat.{ℕ, ◌+◌, ◌-◌, ◌*◌, ◌/◌, ◌%◌, ◌^◌, ◌≤◌, ◌<◌, min}
use native.Mathlib.Nat.{zero-div}
use native.Mathlib.Decide.{dec_lt}
use native.Mathlib.Omega.{arith}
use lib.Bits.{bit_and}
use lib.Dec.{leb, ltb}
use lib.ListN.{length, get_or}
use borrow.Author.Tests.{leb-true, ltb-true, le-leb, lt-ltb}
use Rattle.dots.specs.declared.Ink.{Ink}
use Rattle.dots.specs.Dots.{drawn, box, cut, bit_of}
use Rattle.eights.specs.Eights.{eights}
use Rattle.dots.proofs.Bits.{all_below, all-below, and-bit, sameb, sameb-true}
use Rattle.eights.proofs.EightDots.{eights-says, says-eights}
use Rattle.dots.proofs.Pages.{drawn-ext}
use Rattle.dots.proofs.Shapes.{In, in-box, box_in, not-in-box, same_test, join-test}
use Rattle.ground.proofs.Tests.{and-true}
use Rattle.figures.specs.Figures.{bit_row, row_of, shifted, placed}
use Rattle.figures.proofs.Placed.{Joins, guard}

-- ---- the first n dots of a byte
first_at : ℕ → ℕ → Bool
first_at n k = sameb (bit_of (255 - 255 / 2 ^ n) k) (ltb k n)

all_first : all_below 9 (λ n. all_below 8 (first_at n)) ≡ true
unfolding first_at
all_first = refl

first_bit : (c n k : ℕ) → n ≤ 8 → k < 8 → bit_of (bit_and c (255 - 255 / 2 ^ n)) k ≡ (bit_of c k && ltb k n)
unfolding first_at
first_bit c n k hn hk =
    and-bit c (255 - 255 / 2 ^ n) k
    ∙ ap (λ (t : Bool). bit_of c k && t) (sameb-true _ _ (all-below 8 (first_at n) (all-below 9 (λ n. all_below 8 (first_at n)) all_first n (omega arith)) k hk))

-- ---- one byte
-- the dots of the byte c as those from g on of a row of bw dots
abbrev pub eight_of : ℕ → ℕ → ℕ → ℕ → ℕ → ℕ → ℕ → ℕ → Bool
eight_of d g bw v0 v1 c u v = shifted d (λ u v. box g v0 (min (g + 8) bw) v1 u v && bit_of c (u - g)) u v

pub white-eight : (d g bw v0 v1 c u v : ℕ) → c ≡ 0 → eight_of d g bw v0 v1 c u v ≡ false
white-eight d g bw v0 v1 c u v e =
    rw (e, zero-div (2 ^ (7 - (u - d - g))), and-false (box g v0 (min (g + 8) bw) v1 (u - d) v)) (and-false (leb d u))

-- where the capped numbers are those of a dot of the page, they are not capped
uncapped : (s t a : ℕ) → s ≡ min 18446744073709551615 t → s ≤ a → a < 608 → s ≡ t
uncapped s t a e h k = omega arith

capped_same : (s t a : ℕ) → s ≡ min 18446744073709551615 t → t ≤ a → a < 608 → s ≡ t
capped_same s t a e h k = omega arith

below_all : (n e f g k : ℕ) → n ≡ min (min 8 e) (min f g) → k < n → (k < 8) × (k < e) × (k < f) × (k < g)
below_all n e f g k h i = (omega arith, omega arith, omega arith, omega arith)

all-below4 : (n e f g k : ℕ) → n ≡ min (min 8 e) (min f g) → k < 8 → k < e → k < f → k < g → k < n
all-below4 n e f g k h i j l m = omega arith

at-most-8 : (n e f g : ℕ) → n ≡ min (min 8 e) (min f g) → n ≤ 8
at-most-8 n e f g h = omega arith

-- column a of the page shows dot k of the byte
record Across (W x w d g bw k a : ℕ) : Type 0 where
  is : a ≡ x + (d + (g + k))
  byte : k < 8
  row : g + k < bw
  figure : d + (g + k) < w
  label : x + (d + (g + k)) < W

across : (W x w d g bw left from k a : ℕ) → from ≡ x + left → left ≡ d + g → a ≡ from + k → k < 8 → k < bw - g → k < w - left → k < W - from
    → Across W x w d g bw k a
across W x w d g bw left from k a e f h i j l m =
    record { is = omega arith; byte = i; row = omega arith; figure = omega arith; label = omega arith }

rest_of : (from a : ℕ) → from ≤ a → a ≡ from + (a - from)
rest_of from a h = omega arith

part_of : (s x l a : ℕ) → s ≡ x + l → s ≤ a → l ≤ a
part_of s x l a e h = omega arith

across-seen : (W x w d g bw k a : ℕ) → Across W x w d g bw k a
    → (a < W) × (x ≤ a) × (a - x < w) × (d ≤ a - x) × (g ≤ a - x - d) × (a - x - d < min (g + 8) bw) × (a - x - d - g ≡ k)
across-seen W x w d g bw k a A = (
  omega (arith, A.is, A.label),
  omega (arith, A.is),
  omega (arith, A.is, A.figure),
  omega (arith, A.is),
  omega (arith, A.is),
  omega (arith, A.is, A.row, A.byte),
  omega (arith, A.is),
)

seen-across : (W x w d g bw a : ℕ) → a < W → x ≤ a → a - x < w → d ≤ a - x → g ≤ a - x - d → a - x - d < min (g + 8) bw
    → Across W x w d g bw (a - x - d - g) a
seen-across W x w d g bw a i j k l m n = record { is = omega arith; byte = omega arith; row = omega arith; figure = omega arith; label = omega arith }

-- row b of the page
down-seen : (L y h v0 v1 top end bottom b : ℕ) → top ≡ min 18446744073709551615 (y + v0) → end ≡ min 18446744073709551615 (y + min v1 h) → bottom ≡ min end L
    → b < 18446744073709551615 → top ≤ b → b < bottom → (b < L) × (y ≤ b) × (b - y < h) × (v0 ≤ b - y) × (b - y < v1)
down-seen L y h v0 v1 top end bottom b et ee eb s i j = (omega arith, omega arith, omega arith, omega arith, omega arith)

seen-down : (L y h v0 v1 top end bottom b : ℕ) → top ≡ min 18446744073709551615 (y + v0) → end ≡ min 18446744073709551615 (y + min v1 h) → bottom ≡ min end L
    → b < 18446744073709551615 → b < L → y ≤ b → b - y < h → v0 ≤ b - y → b - y < v1 → (top ≤ b) × (b < bottom)
seen-down L y h v0 v1 top end bottom b et ee eb s i j k l m = (omega arith, omega arith)

module _ (x d g left from a : ℕ) (el : left ≡ min 18446744073709551615 (d + g)) (ef : from ≡ min 18446744073709551615 (x + left)) (s : a < 608) where
  starts : from ≤ a → (from ≡ x + left) × (left ≡ d + g)
  starts i =
      let f = uncapped from (x + left) a ef i s in
      (f, uncapped left (d + g) a el (part_of from x left a f i) s)

  starts-at : (k : ℕ) → a ≡ x + (d + (g + k)) → (from ≡ x + left) × (left ≡ d + g)
  starts-at k e = (capped_same from (x + left) a ef (at x left d g k a e l) s, l)
    where
      under : (x d g k a : ℕ) → a ≡ x + (d + (g + k)) → d + g ≤ a
      under x d g k a e = omega arith

      at : (x left d g k a : ℕ) → a ≡ x + (d + (g + k)) → left ≡ d + g → x + left ≤ a
      at x left d g k a e f = omega arith

      l : left ≡ d + g
      l = capped_same left (d + g) a el (under x d g k a e) s

-- the dot of column a, from the first on
dot_at : (x d g left from k a : ℕ) → from ≡ x + left → left ≡ d + g → a ≡ x + (d + (g + k)) → (from ≤ a) × (a - from ≡ k)
dot_at x d g left from k a e f h = (omega arith, omega arith)

end_of : (from a k : ℕ) → from ≤ a → a - from ≡ k → k < 8 → a < from + 8
end_of from a k h e i = omega arith

short : (from a : ℕ) → from ≤ a → a < from + 8 → a - from < 8
short from a h k = omega arith

left-of : (k s t : ℕ) → s + k < t → k < t - s
left-of k s t h = omega arith

module _ (ink : Ink) (W L x y w h d g bw v0 v1 c left from n top end bottom m : ℕ) (p q : List ℕ) (lp : length p < 18446744073709551616)
    (el : left ≡ min 18446744073709551615 (d + g)) (ef : from ≡ min 18446744073709551615 (x + left))
    (en : n ≡ min (min 8 (bw - g)) (min (w - left) (W - from))) (et : top ≡ min 18446744073709551615 (y + v0))
    (ee : end ≡ min 18446744073709551615 (y + min v1 h)) (eb : bottom ≡ min end L) (em : m ≡ bit_and c (255 - 255 / 2 ^ n)) where
  dot : (k : ℕ) → k < 8 → bit_of m k ≡ (bit_of c k && ltb k n)
  dot k i = ap (λ (m : ℕ). bit_of m k) em ∙ first_bit c n k (at-most-8 n (bw - g) (w - left) (W - from) en) i

  to : (a b : ℕ) → a < 608 → b < 18446744073709551615 → eights from top bottom m a b ≡ true
      → cut W L (placed 0 w h x y (eight_of d g bw v0 v1 c)) a b ≡ true
  to a b s t e =
      let i = eights-says from top bottom m a b e in
      let f = and-true (bit_of c (a - from)) (ltb (a - from) n) (sym (dot (a - from) (short from a i.there.left i.there.right)) ∙ i.bit) in
      let k = below_all n (bw - g) (w - left) (W - from) (a - from) en (ltb-true (a - from) n f.1) in
      let z = starts x d g left from a el ef s i.there.left in
      let A = across-seen W x w d g bw (a - from) a
      (across W x w d g bw left from (a - from) a z.0 z.1 (rest_of from a i.there.left) k.0 k.1 k.2 k.3) in
      let D = down-seen L y h v0 v1 top end bottom b et ee eb t i.there.top i.there.bottom in
      rw (
        lt-ltb a W A.0,
        lt-ltb b L D.0,
        le-leb x a A.1,
        le-leb y b D.1,
        lt-ltb (a - x) w A.2,
        lt-ltb (b - y) h D.2,
        le-leb d (a - x) A.3,
        box_in g v0 (min (g + 8) bw) v1 (a - x - d) (b - y) (record { left = A.4; right = A.5; top = D.3; bottom = D.4 }),
        A.6,
      ) f.0

  back : (a b : ℕ) → a < 608 → b < 18446744073709551615 → cut W L (placed 0 w h x y (eight_of d g bw v0 v1 c)) a b ≡ true
      → eights from top bottom m a b ≡ true
  back a b s t e =
      let h0 = and-true (ltb a W && ltb b L) _ e in
      let h1 = and-true (ltb a W) (ltb b L) h0.0 in
      let h2 = and-true ((leb x a && leb y b) && (ltb (a - x) w && ltb (b - y) h)) _ h0.1 in
      let h3 = and-true (leb x a && leb y b) (ltb (a - x) w && ltb (b - y) h) h2.0 in
      let h4 = and-true (leb x a) (leb y b) h3.0 in
      let h5 = and-true (ltb (a - x) w) (ltb (b - y) h) h3.1 in
      let h6 = and-true (leb d (a - x)) _ h2.1 in
      let h7 = and-true (box g v0 (min (g + 8) bw) v1 (a - x - d) (b - y)) (bit_of c (a - x - d - g)) h6.1 in
      let i = in-box g v0 (min (g + 8) bw) v1 (a - x - d) (b - y) h7.0 in
      let A = seen-across W x w d g bw a (ltb-true a W h1.0) (leb-true x a h4.0) (ltb-true (a - x) w h5.0) (leb-true d (a - x) h6.0) i.left i.right in
      let D = seen-down L y h v0 v1 top end bottom b et ee eb t (ltb-true b L h1.1) (leb-true y b h4.1) (ltb-true (b - y) h h5.1) i.top i.bottom in
      let k = a - x - d - g in
      let z = starts-at x d g left from a el ef s k A.is in
      let at = dot_at x d g left from k a z.0 z.1 A.is in
      let in-w : left + k < w = rw z.1 (moved d g k w A.figure) in
      let in-W : from + k < W = rw (z.0, z.1) (moved x (d + g) k W (shared x d g k W A.label)) in
      says-eights from top bottom m a b (record {
        there = record { left = at.0; right = end_of from a k at.0 at.1 A.byte; top = D.0; bottom = D.1 };
        bit = rw at.1 (dot k A.byte
            ∙ rw (lt-ltb k n (all-below4 n (bw - g) (w - left) (W - from) k en A.byte (left-of k g bw A.row) (left-of k left w in-w) (left-of k from W in-W)), h7.1));
      })
    where
      moved : (d g k w : ℕ) → d + (g + k) < w → d + g + k < w
      moved d g k w h = omega arith

      shared : (x d g k w : ℕ) → x + (d + (g + k)) < w → x + (d + g + k) < w
      shared x d g k w h = omega arith

  pub as-eight : q ≡ drawn ink (eights from top bottom m) p → q ≡ drawn ink (cut W L (placed 0 w h x y (eight_of d g bw v0 v1 c))) p
  as-eight e = e ∙ drawn-ext ink _ _ p (λ a b s t. same_test _ _ (to a b s (rows_fit b (length p) lp t)) (back a b s (rows_fit b (length p) lp t)))
    where
      rows_fit : (b n : ℕ) → n < 18446744073709551616 → b < n / 76 → b < 18446744073709551615
      rows_fit b n h k = omega arith

-- ---- the next byte of a row
module _ (bytes : List ℕ) (at k bw v0 v1 c : ℕ) (hc : c ≡ get_or bytes (at + k * 8 / 8) 0) (hk : k * 8 < bw) where
  abbrev A : ℕ → ℕ → Bool
  A u v = row_of (bit_row bytes at) (min (k * 8) bw) 1 v0 v1 u v

  abbrev B : ℕ → ℕ → Bool
  B u v = box (k * 8) v0 (min (k * 8 + 8) bw) v1 u v && bit_of c (u - k * 8)

  abbrev C : ℕ → ℕ → Bool
  C u v = row_of (bit_row bytes at) (min ((k + 1) * 8) bw) 1 v0 v1 u v

  same : (u v : ℕ) → k * 8 ≤ u → u < k * 8 + 8 → bit_row bytes at (u / 1) ≡ bit_of c (u - k * 8)
  same u v i j =
      let y : u / 1 / 8 ≡ k * 8 / 8 = omega arith in
      let z : u / 1 % 8 ≡ u - k * 8 = omega arith in
      rw (hc, y, z)

  split : (u v : ℕ) → In 0 v0 (min ((k + 1) * 8) bw * 1) v1 u v → bit_row bytes at (u / 1) ≡ true → Dec (u < k * 8) → (A u v ≡ true) ⊎ (B u v ≡ true)
  split u v i t (yes s) = inl (rw (box_in 0 v0 (min (k * 8) bw * 1) v1 u v (omega arith)) t)
  split u v i t (no s) = inr (rw (box_in (k * 8) v0 (min (k * 8 + 8) bw) v1 u v (omega arith)) (sym (same u v (omega arith) (omega arith)) ∙ t))

  joins : (u v : ℕ) → Joins (A u v) (B u v) (C u v)
  joins u v =
      join-test (A u v) (B u v) (C u v)
      (λ e. let h = and-true (box 0 v0 (min (k * 8) bw * 1) v1 u v) (bit_row bytes at (u / 1)) e in
      let i = in-box 0 v0 (min (k * 8) bw * 1) v1 u v h.0 in
      rw (box_in 0 v0 (min ((k + 1) * 8) bw * 1) v1 u v (omega arith)) h.1)
      (λ e. let h = and-true (box (k * 8) v0 (min (k * 8 + 8) bw) v1 u v) (bit_of c (u - k * 8)) e in
      let i = in-box (k * 8) v0 (min (k * 8 + 8) bw) v1 u v h.0 in
      rw (box_in 0 v0 (min ((k + 1) * 8) bw * 1) v1 u v (omega arith)) (same u v (omega arith) (omega arith) ∙ h.1))
      (λ e. let h = and-true (box 0 v0 (min ((k + 1) * 8) bw * 1) v1 u v) (bit_row bytes at (u / 1)) e in
      split u v (in-box 0 v0 (min ((k + 1) * 8) bw * 1) v1 u v h.0) h.1 (dec_lt u (k * 8)))
      (λ e f. let h = and-true (box 0 v0 (min (k * 8) bw * 1) v1 u v) (bit_row bytes at (u / 1)) e in
      let i = in-box 0 v0 (min (k * 8) bw * 1) v1 u v h.0 in
      let l = and-true (box (k * 8) v0 (min (k * 8 + 8) bw) v1 u v) (bit_of c (u - k * 8)) f in
      let j = in-box (k * 8) v0 (min (k * 8 + 8) bw) v1 u v l.0 in omega arith)

  pub bytes_next : (d u v : ℕ) → Joins (shifted d (row_of (bit_row bytes at) (min (k * 8) bw) 1 v0 v1) u v) (eight_of d (k * 8) bw v0 v1 c u v)
      (shifted d (row_of (bit_row bytes at) (min ((k + 1) * 8) bw) 1 v0 v1) u v)
  bytes_next d u v = guard (leb d u) _ _ _ (λ i. joins (u - d) v)

pub bytes-start : (row : ℕ → Bool) (d k bw v0 v1 u v : ℕ) → k ≡ 0 → shifted d (row_of row (min (k * 8) bw) 1 v0 v1) u v ≡ false
bytes-start row d k bw v0 v1 u v e = rw (not-in-box 0 v0 (min (k * 8) bw * 1) v1 (u - d) v (λ h. omega arith)) (and-false (leb d u))

-- ---- the numbers as the code has them
pub no-more-than-8 : (n s t e : ℕ) → n ≡ min s t → s ≡ min 8 e → n ≤ 8
no-more-than-8 n s t e h k = omega arith

pub counted : (n s t e f g a b : ℕ) → n ≡ min s t → s ≡ min 8 e → t ≡ min a b → a ≡ f → b ≡ g → n ≡ min (min 8 e) (min f g)
counted n s t e f g a b h i j k l = h ∙ (λ r. min (i r) ((j ∙ (λ o. min (k o) (l o))) r))
