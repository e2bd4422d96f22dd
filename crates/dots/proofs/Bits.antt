-- The dots of a byte: a byte is what its eight dots say, and what `|` and `^` do to them.
-- Assumes nothing.
use mathlib.Core.Path.{◌≡◌, refl, sym, ap, ◌∙◌}
use mathlib.Core.Bool.{Bool, true, false, not, cond, ◌&&◌, ◌||◌, and-false}
use Prim.Native.Nat.{ℕ, zero, suc, ◌+◌, ◌-◌, ◌*◌, ◌/◌, ◌%◌, ◌^◌, ◌≤◌, ◌<◌, min}
use native.Mathlib.Nat.{mod-lt, le_of_suc-le-suc, not-suc-le-zero}
use native.Mathlib.Omega.{arith}
use native.Mathlib.Decide.{ℕ_discrete, dec_lt}
use lib.Dec.{leb, eqb, lit<}
use lib.Bits.{bit_and, bit_or, bit_xor, and_shr, and_mod, or_shr, or_mod, xor_shr, xor_mod, or_lt, xor_lt}
use borrow.Author.Tests.{leb-true, eqb-true, le-leb, lt-leb, lt-ltb}
use Rattle.ground.proofs.Tests.{and-true, not-below}
use Rattle.ground.specs.Numbers.{one}
use Rattle.dots.specs.declared.Ink.{Ink}
use Rattle.dots.specs.declared.Ink.TheVariants.{Black, White, Inverted}
use Rattle.dots.specs.Dots.{bit_of, byte_of, within, inked}

pub one-le : (b : Bool) → one b ≤ 1
one-le true = omega arith
one-le false = omega arith

one-is : (b : Bool) (n : ℕ) → n ≡ one b → eqb n 1 ≡ b
one-is true n e = rw e
one-is false n e = rw e

-- what holds at 0 to 7 holds below 8
pub below8 : (P : ℕ → Type 0) → P 0 → P 1 → P 2 → P 3 → P 4 → P 5 → P 6 → P 7 → (k : ℕ) → k < 8 → P k
below8 P a b c d e f g h zero t = a
below8 P a b c d e f g h (suc zero) t = b
below8 P a b c d e f g h (suc (suc zero)) t = c
below8 P a b c d e f g h (suc (suc (suc zero))) t = d
below8 P a b c d e f g h (suc (suc (suc (suc zero)))) t = e
below8 P a b c d e f g h (suc (suc (suc (suc (suc zero))))) t = f
below8 P a b c d e f g h (suc (suc (suc (suc (suc (suc zero)))))) t = g
below8 P a b c d e f g h (suc (suc (suc (suc (suc (suc (suc zero))))))) t = h
below8 P a b c d e f g h (suc (suc (suc (suc (suc (suc (suc (suc k)))))))) t = absurd (let q : ⊥ = omega arith in q)

-- the dots of a byte that is made of eight dots
pub bit-of-byte : (g : ℕ → Bool) (k : ℕ) → k < 8 → bit_of (byte_of g) k ≡ g k
bit-of-byte g = below8 (λ k. bit_of (byte_of g) k ≡ g k) (at 0 b0) (at 1 b1) (at 2 b2) (at 3 b3) (at 4 b4) (at 5 b5) (at 6 b6) (at 7 b7)
  where
    le : (k : ℕ) → one (g k) ≤ 1
    le k = one-le (g k)

    at : (k : ℕ) → byte_of g / 2 ^ (7 - k) % 2 ≡ one (g k) → bit_of (byte_of g) k ≡ g k
    at k e = one-is (g k) (byte_of g / 2 ^ (7 - k) % 2) e

    b0 : byte_of g / 128 % 2 ≡ one (g 0)
    b0 = omega (arith, le 0, le 1, le 2, le 3, le 4, le 5, le 6, le 7)

    b1 : byte_of g / 64 % 2 ≡ one (g 1)
    b1 = omega (arith, le 0, le 1, le 2, le 3, le 4, le 5, le 6, le 7)

    b2 : byte_of g / 32 % 2 ≡ one (g 2)
    b2 = omega (arith, le 0, le 1, le 2, le 3, le 4, le 5, le 6, le 7)

    b3 : byte_of g / 16 % 2 ≡ one (g 3)
    b3 = omega (arith, le 0, le 1, le 2, le 3, le 4, le 5, le 6, le 7)

    b4 : byte_of g / 8 % 2 ≡ one (g 4)
    b4 = omega (arith, le 0, le 1, le 2, le 3, le 4, le 5, le 6, le 7)

    b5 : byte_of g / 4 % 2 ≡ one (g 5)
    b5 = omega (arith, le 0, le 1, le 2, le 3, le 4, le 5, le 6, le 7)

    b6 : byte_of g / 2 % 2 ≡ one (g 6)
    b6 = omega (arith, le 0, le 1, le 2, le 3, le 4, le 5, le 6, le 7)

    b7 : byte_of g / 1 % 2 ≡ one (g 7)
    b7 = omega (arith, le 0, le 1, le 2, le 3, le 4, le 5, le 6, le 7)

pub byte-cong : (f g : ℕ → Bool) → ((k : ℕ) → k < 8 → f k ≡ g k) → byte_of f ≡ byte_of g
byte-cong f g h = rw (h 0 (lit< tt), h 1 (lit< tt), h 2 (lit< tt), h 3 (lit< tt), h 4 (lit< tt), h 5 (lit< tt), h 6 (lit< tt), h 7 (lit< tt))

one-eqb : (n : ℕ) → n < 2 → one (eqb n 1) ≡ n
one-eqb zero h = refl
one-eqb (suc zero) h = refl
one-eqb (suc (suc n)) h = absurd (not-suc-le-zero (le_of_suc-le-suc (le_of_suc-le-suc h)))

pub byte-lt : (g : ℕ → Bool) → byte_of g < 256
byte-lt g =
    omega (arith, one-le (g 0), one-le (g 1), one-le (g 2), one-le (g 3), one-le (g 4), one-le (g 5), one-le (g 6), one-le (g 7))

-- a number from its digits, the lowest first
sum8 : (n n1 n2 n3 n4 n5 n6 d0 d1 d2 d3 d4 d5 d6 d7 : ℕ) → n ≡ n1 * 2 + d0 → n1 ≡ n2 * 2 + d1 → n2 ≡ n3 * 2 + d2 → n3 ≡ n4 * 2 + d3
    → n4 ≡ n5 * 2 + d4 → n5 ≡ n6 * 2 + d5 → n6 ≡ d7 * 2 + d6 → d7 * 128 + d6 * 64 + d5 * 32 + d4 * 16 + d3 * 8 + d2 * 4 + d1 * 2 + d0 ≡ n
sum8 n n1 n2 n3 n4 n5 n6 d0 d1 d2 d3 d4 d5 d6 d7 h0 h1 h2 h3 h4 h5 h6 = omega arith

-- a byte is what its dots say
pub byte-is : (b : ℕ) → b < 256 → byte_of (bit_of b) ≡ b
byte-is b h =
    sum8 b (b / 2) (b / 4) (b / 8) (b / 16) (b / 32) (b / 64) (dot 7) (dot 6) (dot 5) (dot 4) (dot 3) (dot 2) (dot 1) (dot 0)
    (omega (arith, at (b / 1))) (omega (arith, at (b / 2))) (omega (arith, at (b / 4))) (omega (arith, at (b / 8)))
    (omega (arith, at (b / 16))) (omega (arith, at (b / 32))) (omega (arith, at (b / 64), at (b / 128)))
  where
    dot : ℕ → ℕ
    dot k = one (bit_of b k)

    at : (n : ℕ) → one (eqb (n % 2) 1) ≡ n % 2
    at n = one-eqb (n % 2) (mod-lt n (lit< tt))

-- a number below 256 that has the dots of g is the byte of g
pub byte-by-bits : (b : ℕ) (g : ℕ → Bool) → b < 256 → ((k : ℕ) → k < 8 → bit_of b k ≡ g k) → b ≡ byte_of g
byte-by-bits b g h e = sym (byte-is b h) ∙ byte-cong (bit_of b) g e

-- ---- `|` and `^`, dot by dot
bits2 : (P : ℕ → ℕ → Type 0) → P 0 0 → P 0 1 → P 1 0 → P 1 1 → (u v : ℕ) → u < 2 → v < 2 → P u v
bits2 P a b c d zero zero h k = a
bits2 P a b c d zero (suc zero) h k = b
bits2 P a b c d (suc zero) zero h k = c
bits2 P a b c d (suc zero) (suc zero) h k = d
bits2 P a b c d (suc (suc u)) v h k = absurd (not-suc-le-zero (le_of_suc-le-suc (le_of_suc-le-suc h)))
bits2 P a b c d zero (suc (suc v)) h k = absurd (not-suc-le-zero (le_of_suc-le-suc (le_of_suc-le-suc k)))
bits2 P a b c d (suc zero) (suc (suc v)) h k = absurd (not-suc-le-zero (le_of_suc-le-suc (le_of_suc-le-suc k)))

pub or-bit : (a b k : ℕ) → bit_of (bit_or a b) k ≡ (bit_of a k || bit_of b k)
or-bit a b k =
    rw (or_shr a b (7 - k), or_mod (a / 2 ^ (7 - k)) (b / 2 ^ (7 - k)) 1)
    (bits2 (λ u v. eqb (bit_or u v) 1 ≡ (eqb u 1 || eqb v 1)) refl refl refl refl (a / 2 ^ (7 - k) % 2) (b / 2 ^ (7 - k) % 2)
    (mod-lt (a / 2 ^ (7 - k)) (lit< tt)) (mod-lt (b / 2 ^ (7 - k)) (lit< tt)))

pub xor-bit : (a b k : ℕ) → bit_of (bit_xor a b) k ≡ cond (bit_of b k) (not (bit_of a k)) (bit_of a k)
xor-bit a b k =
    rw (xor_shr a b (7 - k), xor_mod (a / 2 ^ (7 - k)) (b / 2 ^ (7 - k)) 1)
    (bits2 (λ u v. eqb (bit_xor u v) 1 ≡ cond (eqb v 1) (not (eqb u 1)) (eqb u 1)) refl refl refl refl (a / 2 ^ (7 - k) % 2) (b / 2 ^ (7 - k) % 2)
    (mod-lt (a / 2 ^ (7 - k)) (lit< tt)) (mod-lt (b / 2 ^ (7 - k)) (lit< tt)))

pub and-bit : (a b k : ℕ) → bit_of (bit_and a b) k ≡ (bit_of a k && bit_of b k)
and-bit a b k =
    rw (and_shr a b (7 - k), and_mod (a / 2 ^ (7 - k)) (b / 2 ^ (7 - k)) 1)
    (bits2 (λ u v. eqb (bit_and u v) 1 ≡ (eqb u 1 && eqb v 1)) refl refl refl refl (a / 2 ^ (7 - k) % 2) (b / 2 ^ (7 - k) % 2)
    (mod-lt (a / 2 ^ (7 - k)) (lit< tt)) (mod-lt (b / 2 ^ (7 - k)) (lit< tt)))

-- ---- the inks: the byte b with the dots of the mask m drawn
abbrev pub inked_byte : Ink → ℕ → ℕ → ℕ
inked_byte ink b m = byte_of (λ k. cond (bit_of m k) (inked ink (bit_of b k)) (bit_of b k))

black-dot : (o m : Bool) → (o || m) ≡ cond m true o
black-dot true true = refl
black-dot true false = refl
black-dot false true = refl
black-dot false false = refl

white-dot : (o m : Bool) → cond m (not (o || m)) (o || m) ≡ cond m false o
white-dot true true = refl
white-dot true false = refl
white-dot false true = refl
white-dot false false = refl

pub black-byte : (b m : ℕ) → b < 256 → m < 256 → bit_or b m ≡ inked_byte Black b m
black-byte b m hb hm = byte-by-bits (bit_or b m) _ (or_lt 8 b m hb hm) (λ k t. or-bit b m k ∙ black-dot (bit_of b k) (bit_of m k))

pub white-byte : (b m : ℕ) → b < 256 → m < 256 → bit_xor (bit_or b m) m ≡ inked_byte White b m
white-byte b m hb hm =
    byte-by-bits (bit_xor (bit_or b m) m) _ (xor_lt 8 (bit_or b m) m (or_lt 8 b m hb hm) hm)
    (λ k t. xor-bit (bit_or b m) m k ∙ ap (λ (o : Bool). cond (bit_of m k) (not o) o) (or-bit b m k) ∙ white-dot (bit_of b k) (bit_of m k))

pub inverted-byte : (b m : ℕ) → b < 256 → m < 256 → bit_xor b m ≡ inked_byte Inverted b m
inverted-byte b m hb hm = byte-by-bits (bit_xor b m) _ (xor_lt 8 b m hb hm) (λ k t. xor-bit b m k)

-- ---- a test at each number below n, which antt computes
abbrev pub all_below : ℕ → (ℕ → Bool) → Bool
all_below zero f = true
all_below (suc n) f = f n && all_below n f

at-or-below : (n : ℕ) (f : ℕ → Bool) (k : ℕ) → k < suc n → f n ≡ true → (k < n → f k ≡ true) → Dec (k ≡ n) → f k ≡ true
at-or-below n f k h e ih (yes q) = ap f q ∙ e
at-or-below n f k h e ih (no d) = ih (omega arith)

pub all-below : (n : ℕ) (f : ℕ → Bool) → all_below n f ≡ true → (k : ℕ) → k < n → f k ≡ true
all-below zero f e k h = absurd (not-suc-le-zero h)
all-below (suc n) f e k h =
    let both = and-true (f n) (all_below n f) e in
    at-or-below n f k h both.0 (all-below n f both.1 k) (ℕ_discrete k n)

-- two tests compared by a computed test
abbrev pub sameb : Bool → Bool → Bool
sameb true b = b
sameb false b = not b

pub sameb-true : (a b : Bool) → sameb a b ≡ true → a ≡ b
sameb-true true b e = sym e
sameb-true false true e = e
sameb-true false false e = refl

-- what `span_mask` computes: a byte whose first n dots are white and whose others are black, and the difference of two
abbrev pub from : ℕ → ℕ
from n = 255 / 2 ^ n

right : ℕ → ℕ → Bool
right lo hi = not (leb lo hi) || (leb (from hi) (from lo) && eqb (from lo - from hi) (byte_of (within lo hi)))

all_right : all_below 9 (λ lo. all_below 9 (right lo)) ≡ true
unfolding right
all_right = refl

pub span-byte : (lo hi : ℕ) → lo ≤ hi → hi ≤ 8 → (from hi ≤ from lo) × (from lo - from hi ≡ byte_of (within lo hi))
unfolding right
span-byte lo hi h k =
    let e : right lo hi ≡ true = all-below 9 (right lo) (all-below 9 (λ n. all_below 9 (right n)) all_right lo (omega arith)) hi (omega arith) in
    let b = and-true (leb (from hi) (from lo)) _ (rw (le-leb lo hi h) at e) in
    (leb-true (from hi) (from lo) b.0, eqb-true _ _ b.1)

-- of any span only the part is seen that a byte has
pub span-cut : (lo hi start end : ℕ) → end ≡ min hi 8 → start ≡ min lo end → byte_of (within start end) ≡ byte_of (within lo hi)
span-cut lo hi start end e s = byte-cong (within start end) (within lo hi) (λ k t. at k t (dec_lt k hi) (dec_lt k lo))
  where
    at : (k : ℕ) → k < 8 → Dec (k < hi) → Dec (k < lo) → within start end k ≡ within lo hi k
    at k t (no h) d = rw (not-below k hi (omega arith), not-below k end (omega arith), and-false (leb start k), and-false (leb lo k))
    at k t (yes h) (no d) = rw (le-leb lo k (omega arith), le-leb start k (omega arith), lt-ltb k hi h, lt-ltb k end (omega arith))
    at k t (yes h) (yes d) = rw (lt-leb lo k d, lt-leb start k (omega arith))
