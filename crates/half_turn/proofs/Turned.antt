-- The half turn: a byte with its dots in the other order, rows whose bytes are so in the other order, rows shifted, and both together.
-- Assumes nothing.
use mathlib.Core.Path.{◌≡◌, refl, sym, ap, subst, ◌∙◌}
use mathlib.Core.Bool.{Bool, true, false, not, cond, ◌&&◌, ◌||◌, and-false}
use mathlib.Core.List.{List}
use Prim.Native.Nat.{ℕ, ◌+◌, ◌-◌, ◌*◌, ◌/◌, ◌%◌, ◌^◌, ◌≤◌, ◌<◌, min}
use native.Mathlib.Decide.{ℕ_discrete, dec_lt}
use native.Mathlib.Nat.{zero-div}
use native.Mathlib.Omega.{arith}
use lib.Dec.{eqb, ltb}
use lib.Bits.{bit_and, bit_or, or_lt}
use lib.ListN.{length, get_or, set, length-set}
use lib.Seq.{get_or-set_same, get_or-set_other}
use borrow.Author.Tests.{eqb-true, lt-ltb, not-true}
use Rattle.ground.proofs.Tests.{not-below}
use Rattle.dots.specs.declared.Ink.TheVariants.{White}
use Rattle.dots.specs.Dots.{bit_of, byte_of, dot_at, rows, redrawn, drawn, cut, box}
use Rattle.half_turn.specs.Turn.{turned_in, turned}
use Rattle.outside.specs.Outside.{white_outside}
use Rattle.outside.proofs.WhiteOutside.{dots-white-outside}
use Rattle.dots.proofs.Bits.{all_below, all-below, byte-cong, byte-is, byte-lt, byte-by-bits, bit-of-byte, or-bit}
use Rattle.dots.proofs.Pages.{Bytes, redrawn-by-bytes, redrawn-by-dots, redrawn-redrawn, redrawn-ext, dot-redrawn, length-redrawn, bytes-redrawn}
use Rattle.dots.proofs.Shapes.{cut-box, box_in, not-in-box}

abbrev pub mirrored : ℕ → ℕ
mirrored b = byte_of (λ k. bit_of b (7 - k))

-- what `mirror` computes: the halves of a byte exchanged, then the pairs of dots in each half, then the dots in each pair
abbrev pub halves : ℕ → ℕ
halves b = b / 16 + b % 16 * 16

abbrev pub pairs : ℕ → ℕ
pairs h = bit_and (h / 4) 0x33 + bit_and h 0x33 * 4

abbrev pub singles : ℕ → ℕ
singles p = bit_and (p / 2) 0x55 + bit_and p 0x55 * 2

right : ℕ → Bool
right n = eqb (singles (pairs (halves n))) (mirrored n)

all_right : all_below 256 right ≡ true
unfolding right
all_right = refl

pub mirror-byte : (b : ℕ) → b < 256 → singles (pairs (halves b)) ≡ mirrored b
unfolding right
mirror-byte b h = eqb-true (singles (pairs (halves b))) (mirrored b) (all-below 256 right all_right b h)

-- a page whose first n rows have at byte i the mirrored byte of the other end, and whose other bytes are as they were
pub turned_rows : (n : ℕ) (p q : List ℕ) → Bytes p → n * 76 ≤ length p → length q ≡ length p
    → ((i : ℕ) → i < n * 76 → get_or q i 0 ≡ mirrored (get_or p (n * 76 - 1 - i) 0))
    → ((i : ℕ) → n * 76 ≤ i → get_or q i 0 ≡ get_or p i 0)
    → q ≡ redrawn (λ x y o. cond (ltb y n) (dot_at p (607 - x) (n - 1 - y)) o) p
unfolding dot_at
turned_rows n p q by h e f g = redrawn-by-bytes _ p q e (λ i t. at i t (dec_lt i (n * 76))) (λ i s t. g i (omega arith))
  where
    byte : (i k : ℕ) → i < n * 76 → k < 8 → n * 76 - 1 - i ≡ (n - 1 - i / 76) * 76 + (607 - (i % 76 * 8 + k)) / 8
    byte i k t s = omega arith

    bit : (i k : ℕ) → k < 8 → 7 - k ≡ (607 - (i % 76 * 8 + k)) % 8
    bit i k s = omega arith

    -- what dot k of byte i becomes, where `turned` says whether its row is turned
    dot : ℕ → Bool → ℕ → Bool
    dot i turned k = cond turned (dot_at p (607 - (i % 76 * 8 + k)) (n - 1 - i / 76)) (bit_of (get_or p i 0) k)

    at : (i : ℕ) → i < rows p * 76 → Dec (i < n * 76) → get_or q i 0 ≡ byte_of (dot i (ltb (i / 76) n))
    at i t (yes s) =
        f i s ∙ byte-cong _ (dot i true) (λ k r. (λ d. bit_of (get_or p (byte i k s r d) 0) (bit i k r d)))
        ∙ ap (λ (c : Bool). byte_of (dot i c)) (sym (lt-ltb (i / 76) n (omega arith)))
    at i t (no s) =
        g i (omega arith) ∙ sym (byte-is (get_or p i 0) (by i)) ∙ ap (λ (c : Bool). byte_of (dot i c)) (sym (not-below (i / 76) n (omega arith)))

-- A page on the way: of its first m bytes those below i and from j on are mirrored from the other end, and all others are as they were.
pub record Turned (m : ℕ) (p q : List ℕ) (i j : ℕ) : Type 0 where
  pub len : length q ≡ length p
  pub fits : m ≤ length p
  pub sum : i + j ≡ m
  pub low : (k : ℕ) → k < i → k < m → get_or q k 0 ≡ mirrored (get_or p (m - 1 - k) 0)
  pub high : (k : ℕ) → j ≤ k → k < m → get_or q k 0 ≡ mirrored (get_or p (m - 1 - k) 0)
  pub inner : (k : ℕ) → i ≤ k → k < j → get_or q k 0 ≡ get_or p k 0
  pub after : (k : ℕ) → m ≤ k → get_or q k 0 ≡ get_or p k 0

pub turned-start : (m : ℕ) (p : List ℕ) → m ≤ length p → Turned m p p 0 m
turned-start m p h = record {
  len = refl;
  fits = h;
  sum = omega arith;
  low = λ k s t. absurd (let z : ⊥ = omega arith in z);
  high = λ k s t. absurd (let z : ⊥ = omega arith in z);
  inner = λ k s t. refl;
  after = λ k s. refl;
}

module _ (m : ℕ) (p q : List ℕ) (i j a b : ℕ) (T : Turned m p q i j) (h : i < j) (ea : a ≡ mirrored (get_or q i 0)) (eb : b ≡ mirrored (get_or q (j - 1) 0)) where
  -- an index that is i or j - 1, and any other
  new : (k : ℕ) → k < m → Dec (k ≡ j - 1) → Dec (k ≡ i)
      → ((k ≡ i → ⊥) → (k ≡ j - 1 → ⊥) → get_or q k 0 ≡ mirrored (get_or p (m - 1 - k) 0))
      → get_or (set (set q i b) (j - 1) a) k 0 ≡ mirrored (get_or p (m - 1 - k) 0)
  new k t (yes e) d r =
      ap (λ (n : ℕ). get_or (set (set q i b) (j - 1) a) n 0) e
      ∙ get_or-set_same (set q i b) (j - 1) a 0 (omega (arith, length-set q i b, T.len, T.fits, T.sum))
      ∙ ea ∙ ap mirrored (T.inner i (omega arith) h)
      ∙ ap (λ (n : ℕ). mirrored (get_or p n 0)) (omega (arith, T.sum))
  new k t (no n) (yes e) r =
      get_or-set_other (set q i b) (j - 1) k a 0 n
      ∙ ap (λ (l : ℕ). get_or (set q i b) l 0) e
      ∙ get_or-set_same q i b 0 (omega (arith, T.len, T.fits, T.sum))
      ∙ eb ∙ ap mirrored (T.inner (j - 1) (omega arith) (omega arith))
      ∙ ap (λ (l : ℕ). mirrored (get_or p l 0)) (omega (arith, T.sum))
  new k t (no n) (no l) r = get_or-set_other (set q i b) (j - 1) k a 0 n ∙ get_or-set_other q i k b 0 l ∙ r l n

  pub turned-step : Turned m p (set (set q i b) (j - 1) a) (i + 1) (j - 1)
  turned-step =
      record {
        len = length-set (set q i b) (j - 1) a ∙ length-set q i b ∙ T.len;
        fits = T.fits;
        sum = omega (arith, T.sum);
        low = λ k s t. new k t (ℕ_discrete k (j - 1)) (ℕ_discrete k i) (λ x y. T.low k (omega arith) t);
        high = λ k s t. new k t (ℕ_discrete k (j - 1)) (ℕ_discrete k i) (λ x y. T.high k (omega arith) t);
        inner = λ k s t.
            get_or-set_other (set q i b) (j - 1) k a 0 (λ e. omega arith) ∙ get_or-set_other q i k b 0 (λ e. omega arith) ∙ T.inner k (omega arith) (omega arith);
        after = λ k s.
            get_or-set_other (set q i b) (j - 1) k a 0 (λ e. omega (arith, T.sum)) ∙ get_or-set_other q i k b 0 (λ e. omega (arith, T.sum)) ∙ T.after k s;
      }

-- the two bytes that stand i from the ends
pub turned-next : (m : ℕ) (p q : List ℕ) (i a b : ℕ) → Turned m p q i (m - i) → i < m / 2 → a ≡ mirrored (get_or q i 0) → b ≡ mirrored (get_or q (m - 1 - i) 0)
    → Turned m p (set (set q i b) (m - 1 - i) a) (i + 1) (m - (i + 1))
turned-next m p q i a b T h ea eb =
    let e : m - i - 1 ≡ m - 1 - i = omega arith in
    let f : m - i - 1 ≡ m - (i + 1) = omega arith in
    subst (λ (n : ℕ). Turned m p (set (set q i b) (m - 1 - i) a) (i + 1) n) f
    (subst (λ (n : ℕ). Turned m p (set (set q i b) n a) (i + 1) (m - i - 1)) e
    (turned-step m p q i (m - i) a b T (omega arith) ea (eb ∙ ap (λ (n : ℕ). mirrored (get_or q n 0)) (sym e))))

pub turned-done : (n : ℕ) (p q : List ℕ) (i j : ℕ) → Bytes p → Turned (n * 76) p q i j → j ≤ i
    → q ≡ redrawn (λ x y o. cond (ltb y n) (dot_at p (607 - x) (n - 1 - y)) o) p
turned-done n p q i j by T d = turned_rows n p q by T.fits T.len (λ k t. at k t (dec_lt k i)) T.after
  where
    at : (k : ℕ) → k < n * 76 → Dec (k < i) → get_or q k 0 ≡ mirrored (get_or p (n * 76 - 1 - k) 0)
    at k t (yes s) = T.low k s t
    at k t (no s) = T.high k (omega arith) t

-- ---- rows shifted
-- what `between` computes: a byte shifted to the left by t dots, and one shifted to the right by 8 - t
lefts : ℕ → ℕ → Bool
lefts t b = eqb (b * 2 ^ t % 256) (byte_of (λ k. ltb (k + t) 8 && bit_of b (k + t)))

all-lefts : all_below 8 (λ t. all_below 256 (lefts t)) ≡ true
unfolding lefts
all-lefts = refl

rights : ℕ → ℕ → Bool
rights t b = eqb (b / 2 ^ (8 - t)) (byte_of (λ k. not (ltb (k + t) 8) && bit_of b (k + t - 8)))

all-rights : all_below 8 (λ t. all_below 256 (rights t)) ≡ true
unfolding rights
all-rights = refl

pub left-byte : (t b : ℕ) → t < 8 → b < 256 → b * 2 ^ t % 256 ≡ byte_of (λ k. ltb (k + t) 8 && bit_of b (k + t))
unfolding lefts
left-byte t b h k = eqb-true _ _ (all-below 256 (lefts t) (all-below 8 (λ n. all_below 256 (lefts n)) all-lefts t h) b k)

pub right-byte : (t b : ℕ) → t < 8 → b < 256 → b / 2 ^ (8 - t) ≡ byte_of (λ k. not (ltb (k + t) 8) && bit_of b (k + t - 8))
unfolding rights
right-byte t b h k = eqb-true _ _ (all-below 256 (rights t) (all-below 8 (λ n. all_below 256 (rights n)) all-rights t h) b k)

either : (c l r : Bool) → ((c && l) || (not c && r)) ≡ cond c l r
either true true r = refl
either true false r = refl
either false l r = refl

pub between-byte : (a b t l r : ℕ) → a < 256 → b < 256 → t < 8 → l ≡ a * 2 ^ t % 256 → r ≡ b / 2 ^ (8 - t)
    → bit_or l r ≡ byte_of (λ k. cond (ltb (k + t) 8) (bit_of a (k + t)) (bit_of b (k + t - 8)))
between-byte a b t l r ha hb ht el er =
    let fl = el ∙ left-byte t a ht ha in
    let fr = er ∙ right-byte t b ht hb in
    byte-by-bits (bit_or l r) _
    (or_lt 8 l r (rw fl (byte-lt (λ k. ltb (k + t) 8 && bit_of a (k + t)))) (rw fr (byte-lt (λ k. not (ltb (k + t) 8) && bit_of b (k + t - 8)))))
    (λ k s. or-bit l r k
    ∙ (λ d. (ap (λ (n : ℕ). bit_of n k) fl ∙ bit-of-byte (λ n. ltb (n + t) 8 && bit_of a (n + t)) k s) d
    || (ap (λ (n : ℕ). bit_of n k) fr ∙ bit-of-byte (λ n. not (ltb (n + t) 8) && bit_of b (n + t - 8)) k s) d)
    ∙ either (ltb (k + t) 8) (bit_of a (k + t)) (bit_of b (k + t - 8)))

pub between-lt : (a b t l r : ℕ) → a < 256 → b < 256 → t < 8 → l ≡ a * 2 ^ t % 256 → r ≡ b / 2 ^ (8 - t) → bit_or l r < 256
between-lt a b t l r ha hb ht el er = rw (between-byte a b t l r ha hb ht el er) (byte-lt (λ k. cond (ltb (k + t) 8) (bit_of a (k + t)) (bit_of b (k + t - 8))))

-- a dot of a byte of a row, or of the white beyond its end, is the dot X of the row
row-dot : (p : List ℕ) (y f j X : ℕ) → X / 8 ≡ f → X % 8 ≡ j
    → bit_of (cond (ltb f 76) (get_or p (y * 76 + f) 0) 0) j ≡ (ltb X 608 && dot_at p X y)
unfolding dot_at
row-dot p y f j X e d = at (dec_lt f 76)
  where
    at : Dec (f < 76) → bit_of (cond (ltb f 76) (get_or p (y * 76 + f) 0) 0) j ≡ (ltb X 608 && bit_of (get_or p (y * 76 + X / 8) 0) (X % 8))
    at (yes h) = rw (lt-ltb f 76 h, lt-ltb X 608 (omega arith)) (λ i. bit_of (get_or p (y * 76 + sym e i) 0) (sym d i))
    at (no h) = rw (not-below f 76 (omega arith), not-below X 608 (omega arith), zero-div (2 ^ (7 - j)))

-- what `shift_byte` stores
pub shifted-byte : (p : List ℕ) (i s a b r : ℕ) → a ≡ cond (ltb (i % 76 + s / 8) 76) (get_or p (i / 76 * 76 + (i % 76 + s / 8)) 0) 0
    → b ≡ cond (ltb (i % 76 + s / 8 + 1) 76) (get_or p (i / 76 * 76 + (i % 76 + s / 8 + 1)) 0) 0
    → r ≡ byte_of (λ k. cond (ltb (k + s % 8) 8) (bit_of a (k + s % 8)) (bit_of b (k + s % 8 - 8)))
    → r ≡ byte_of (λ k. ltb (i % 76 * 8 + k + s) 608 && dot_at p (i % 76 * 8 + k + s) (i / 76))
shifted-byte p i s a b r ea eb er = er ∙ byte-cong _ _ (λ k t. at k t (dec_lt (k + s % 8) 8))
  where
    at : (k : ℕ) → k < 8 → Dec (k + s % 8 < 8)
        → cond (ltb (k + s % 8) 8) (bit_of a (k + s % 8)) (bit_of b (k + s % 8 - 8)) ≡ (ltb (i % 76 * 8 + k + s) 608 && dot_at p (i % 76 * 8 + k + s) (i / 76))
    at k t (yes h) =
        rw (lt-ltb (k + s % 8) 8 h)
        (ap (λ (n : ℕ). bit_of n (k + s % 8)) ea ∙ row-dot p (i / 76) (i % 76 + s / 8) (k + s % 8) (i % 76 * 8 + k + s) (omega arith) (omega arith))
    at k t (no h) =
        rw (not-below (k + s % 8) 8 (omega arith))
        (ap (λ (n : ℕ). bit_of n (k + s % 8 - 8)) eb ∙ row-dot p (i / 76) (i % 76 + s / 8 + 1) (k + s % 8 - 8) (i % 76 * 8 + k + s) (omega arith) (omega arith))

-- A page on the way: its bytes below i are shifted, and the others are as they were.
abbrev shifted_byte : ℕ → List ℕ → ℕ → ℕ
shifted_byte s p i = byte_of (λ k. ltb (i % 76 * 8 + k + s) 608 && dot_at p (i % 76 * 8 + k + s) (i / 76))

pub record Shifted (s : ℕ) (p q : List ℕ) (i : ℕ) : Type 0 where
  pub len : length q ≡ length p
  pub up_to : i ≤ rows p * 76
  pub low : (k : ℕ) → k < i → get_or q k 0 ≡ shifted_byte s p k
  pub high : (k : ℕ) → i ≤ k → get_or q k 0 ≡ get_or p k 0

pub shifted_start : (s : ℕ) (p : List ℕ) → Shifted s p p 0
shifted_start s p = record { len = refl; up_to = omega arith; low = λ k h. absurd (let z : ⊥ = omega arith in z); high = λ k h. refl }

pub shifted_step : (s : ℕ) (p q r : List ℕ) (i : ℕ) → Shifted s p q i → i < rows p * 76 → r ≡ set q i (shifted_byte s q i) → Shifted s p r (i + 1)
unfolding dot_at
shifted_step s p q r i S h e = record {
  len = ap length e ∙ length-set q i (shifted_byte s q i) ∙ S.len;
  up_to = omega arith;
  low = λ k t. ap (λ (l : List ℕ). get_or l k 0) e ∙ at k t (ℕ_discrete k i);
  high = λ k t. ap (λ (l : List ℕ). get_or l k 0) e ∙ get_or-set_other q i k (shifted_byte s q i) 0 (λ n. omega arith) ∙ S.high k (omega arith);
}
  where
    same : (k : ℕ) → k < 8 → dot_at q (i % 76 * 8 + k + s) (i / 76) ≡ dot_at p (i % 76 * 8 + k + s) (i / 76)
    same k t = ap (λ (n : ℕ). bit_of n ((i % 76 * 8 + k + s) % 8)) (S.high (i / 76 * 76 + (i % 76 * 8 + k + s) / 8) (omega arith))

    at : (k : ℕ) → k < i + 1 → Dec (k ≡ i) → get_or (set q i (shifted_byte s q i)) k 0 ≡ shifted_byte s p k
    at k t (yes n) =
        ap (λ (l : ℕ). get_or (set q i (shifted_byte s q i)) l 0) n ∙ get_or-set_same q i (shifted_byte s q i) 0 (omega (arith, S.len))
        ∙ byte-cong _ _ (λ m u. ap (λ (d : Bool). ltb (i % 76 * 8 + m + s) 608 && d) (same m u)) ∙ ap (shifted_byte s p) (sym n)
    at k t (no n) = get_or-set_other q i k (shifted_byte s q i) 0 n ∙ S.low k (omega arith)

pub shifted-done : (s : ℕ) (p q : List ℕ) (i : ℕ) → Shifted s p q i → rows p * 76 ≤ i → q ≡ redrawn (λ x y o. ltb (x + s) 608 && dot_at p (x + s) y) p
shifted-done s p q i S h = redrawn-by-bytes _ p q S.len (λ k t. S.low k (omega arith)) (λ k t u. S.high k (omega (arith, S.up_to)))

-- shifted by no dot
pub shifted_none : (s : ℕ) (p : List ℕ) → Bytes p → s ≡ 0 → p ≡ redrawn (λ x y o. ltb (x + s) 608 && dot_at p (x + s) y) p
shifted_none s p by e =
    redrawn-by-dots _ p p by refl (λ x y hx hy. let z : x + s ≡ x = omega arith in rw (z, lt-ltb x 608 hx)) (λ i h k. refl)

-- ---- both together
pub turned-all : (w l n : ℕ) (p q r t : List ℕ) → w ≤ 608 → l ≤ n → n ≡ rows p
    → q ≡ redrawn (λ x y o. cond (ltb y l) (dot_at p (607 - x) (l - 1 - y)) o) p
    → r ≡ redrawn (λ x y o. ltb (x + (608 - w)) 608 && dot_at q (x + (608 - w)) y) q
    → t ≡ drawn White (cut 608 n (box 0 l 608 n)) r → t ≡ turned_in w l p
unfolding drawn turned_in
turned-all w l n p q r t hw hl en eq er et =
    et ∙ ap (redrawn whitened) er ∙ ap (λ (z : List ℕ). redrawn whitened (redrawn moved z)) eq
    ∙ ap (redrawn whitened) (redrawn-redrawn halfway moved p) ∙ redrawn-redrawn (λ x y o. moved x y (halfway x y o)) whitened p
    ∙ redrawn-ext _ _ p (λ x y o hx hy. at x y hx hy (dec_lt y l) (dec_lt x w))
  where
    halfway : ℕ → ℕ → Bool → Bool
    halfway x y o = cond (ltb y l) (dot_at p (607 - x) (l - 1 - y)) o

    moved : ℕ → ℕ → Bool → Bool
    moved x y o = ltb (x + (608 - w)) 608 && dot_at q (x + (608 - w)) y

    whitened : ℕ → ℕ → Bool → Bool
    whitened x y o = cond (cut 608 n (box 0 l 608 n) x y) false o

    at : (x y : ℕ) → x < 608 → y < rows p → Dec (y < l) → Dec (x < w)
        → cond (cut 608 n (box 0 l 608 n) x y) false (ltb (x + (608 - w)) 608 && dot_at q (x + (608 - w)) y)
        ≡ ((ltb x w && ltb y l) && dot_at p (w - 1 - x) (l - 1 - y))
    at x y hx hy (no a) d =
        rw (cut-box 608 n 0 l 608 n x y, box_in 0 l (min 608 608) (min n n) x y (omega arith), not-below y l (omega arith), and-false (ltb x w))
    at x y hx hy (yes a) (no d) =
        rw (
          cut-box 608 n 0 l 608 n x y,
          not-in-box 0 l (min 608 608) (min n n) x y (λ i. omega arith),
          not-below x w (omega arith),
          not-below (x + (608 - w)) 608 (omega arith),
        )
    at x y hx hy (yes a) (yes d) =
        let z : 607 - (x + (608 - w)) ≡ w - 1 - x = omega arith in
        rw (cut-box 608 n 0 l 608 n x y, not-in-box 0 l (min 608 608) (min n n) x y (λ i. omega arith), lt-ltb x w d, lt-ltb (x + (608 - w)) 608 (omega arith))
        (ap (λ (m : List ℕ). dot_at m (x + (608 - w)) y) eq ∙ dot-redrawn halfway p (x + (608 - w)) y (omega arith) hy
        ∙ rw (lt-ltb y l a) (ap (λ (m : ℕ). dot_at p m (l - 1 - y)) z))

-- ---- what a page that is turned keeps
pub length-turned : (w l : ℕ) (p : List ℕ) → length (turned w l p) ≡ length p
unfolding turned_in
length-turned w l p = length-redrawn _ p

pub bytes-turned : (w l : ℕ) (p : List ℕ) → Bytes p → Bytes (turned w l p)
unfolding turned_in
bytes-turned w l p by = bytes-redrawn _ p by

pub white-outside-turned : (w l : ℕ) (p : List ℕ) → w ≤ 608 → l ≤ rows p → white_outside w l (turned w l p) ≡ true
unfolding turned_in
white-outside-turned w l p hw hl =
    dots-white-outside w l (turned w l p)
    (λ x y hx hy o. let k : y < rows p = omega (arith, length-redrawn dots p) in
    dot-redrawn dots p x y hx k
    ∙ (λ d. (ltb x (ew d) && ltb y (el d)) && dot_at p (min w 608 - 1 - x) (min l (rows p) - 1 - y))
    ∙ ap (λ (t : Bool). t && dot_at p (min w 608 - 1 - x) (min l (rows p) - 1 - y)) (not-true (ltb x w && ltb y l) o))
  where
    ew : min w 608 ≡ w
    ew = omega arith

    el : min l (rows p) ≡ l
    el = omega arith

    dots : ℕ → ℕ → Bool → Bool
    dots x y o = (ltb x (min w 608) && ltb y (min l (rows p))) && dot_at p (min w 608 - 1 - x) (min l (rows p) - 1 - y)
