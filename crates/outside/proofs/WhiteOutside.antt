-- Pages that are white outside the label: looked over byte by byte and row by row, and what that says of their dots.
-- Assumes nothing.
use mathlib.Core.Path.{◌≡◌, refl, sym, ap, ◌∙◌}
use mathlib.Core.Bool.{Bool, true, false, cond, ◌&&◌, and-false}
use mathlib.Core.List.{List, [], ◌∷◌}
use Prim.Native.Nat.{suc-le-suc, ℕ, zero, suc, ◌+◌, ◌-◌, ◌*◌, ◌/◌, ◌%◌, ◌≤◌, ◌<◌, min}
use native.Mathlib.Decide.{dec_lt}
use native.Mathlib.Nat.{zero-add, le_of_suc-le-suc, not-suc-le-zero}
use native.Mathlib.Numerals.{add-one}
use native.Mathlib.Omega.{arith}
use lib.Dec.{leb, ltb}
use lib.Bits.{bit_and, and_lt}
use lib.ListN.{length, get_or, take, drop, length-take, drop_of_length-le}
use lib.Seq.{drop-cons, get_or-take}
use borrow.Author.Tests.{leb-true, ltb-true, le-leb, lt-ltb, eqb-true, eq-eqb, not-true}
use Rattle.ground.proofs.Tests.{is_false, and-true, not-below}
use Rattle.dots.specs.declared.Ink.{Ink}
use Rattle.dots.specs.Dots.{bit_of, byte_of, within, rows, dot_at, inked, drawn, cut}
use Rattle.pages.specs.Pages.{white}
use Rattle.pages.proofs.WholePages.{no-dot, dot-white}
use Rattle.outside.specs.Outside.{outside, white_byte, white_from, white_outside}
use Rattle.dots.proofs.Bits.{byte-lt, byte-cong, byte-by-bits, bit-of-byte, and-bit}
use Rattle.dots.proofs.Pages.{dot-drawn, length-drawn}

pub white-and : (b m : ℕ) (f : ℕ → Bool) → b < 256 → m ≡ byte_of f → bit_and b m ≡ byte_of (λ k. bit_of b k && f k)
white-and b m f h e =
    byte-by-bits (bit_and b m) _ (and_lt 8 b m h (rw e (byte-lt f)))
    (λ k t. and-bit b m k ∙ ap (λ (q : Bool). bit_of b k && q) (ap (λ (n : ℕ). bit_of n k) e ∙ bit-of-byte f k t))

-- the dots of byte i of a page that lie outside: all of them, or those from the width on
module _ (w l i : ℕ) where
  out : (x y : ℕ) → (x < w → y < l → ⊥) → outside w l x y ≡ true
  out x y n = rw (is_false (ltb x w && ltb y l) (λ e. let h = and-true (ltb x w) (ltb y l) e in n (ltb-true x w h.0) (ltb-true y l h.1)))

  pub all-outside : ((k : ℕ) → k < 8 → i % 76 * 8 + k < w → i / 76 < l → ⊥) → 255 ≡ byte_of (λ k. outside w l (i % 76 * 8 + k) (i / 76))
  all-outside n = byte-cong (λ k. true) _ (λ k t. sym (out (i % 76 * 8 + k) (i / 76) (n k t)))

  pub some-outside : (lo : ℕ) → lo ≡ min (w - i % 76 * 8) 8 → i % 76 * 8 < w → i / 76 < l
      → byte_of (within lo 8) ≡ byte_of (λ k. outside w l (i % 76 * 8 + k) (i / 76))
  some-outside lo e hx hy = byte-cong (within lo 8) _ (λ k t. at k t (dec_lt (i % 76 * 8 + k) w))
    where
      at : (k : ℕ) → k < 8 → Dec (i % 76 * 8 + k < w) → within lo 8 k ≡ outside w l (i % 76 * 8 + k) (i / 76)
      at k t (yes h) = rw (lt-ltb (i % 76 * 8 + k) w h, lt-ltb (i / 76) l hy, is_false (leb lo k) (λ q. omega (arith, leb-true lo k q)))
      at k t (no h) = rw (le-leb lo k (omega arith), lt-ltb k 8 t, not-below (i % 76 * 8 + k) w (omega arith))

-- bytes that stand at byte i of a page, looked at one after the other
module _ (w l at : ℕ) (bs : List ℕ) where
  abbrev pub white_left : ℕ → Bool
  white_left i = white_from w l (at + i) (drop i bs)

  pub left-start : white_left 0 ≡ white_from w l at bs
  left-start = let z : at + 0 ≡ at = omega arith in rw z

  left_is : (i : ℕ) → i < length bs → white_left i ≡ (white_byte w l (at + i) (get_or bs i 0) && white_left (i + 1))
  unfolding white_from
  left_is i h = let z : suc (at + i) ≡ at + (i + 1) = omega arith in rw (drop-cons bs i 0 h, z, add-one i)

  pub left_step : (i : ℕ) → i < length bs → white_byte w l (at + i) (get_or bs i 0) ≡ true → white_left (i + 1) ≡ white_left i
  left_step i h e = sym (left_is i h ∙ rw e)

  pub left-stop : (i : ℕ) → i < length bs → white_byte w l (at + i) (get_or bs i 0) ≡ false → false ≡ white_left i
  left-stop i h e = sym (left_is i h ∙ rw e)

  pub left-done : (i : ℕ) → length bs ≤ i → true ≡ white_left i
  unfolding white_from
  left-done i h = rw (drop_of_length-le bs h)

-- a byte is white outside exactly when none of its dots is black there
white-byte-dot : (w l i b k : ℕ) → k < 8 → white_byte w l i b ≡ true → outside w l (i % 76 * 8 + k) (i / 76) ≡ true → bit_of b k ≡ false
white-byte-dot w l i b k t e o =
    first (bit_of b k) (outside w l (i % 76 * 8 + k) (i / 76)) o
    (sym (bit-of-byte (λ n. bit_of b n && outside w l (i % 76 * 8 + n) (i / 76)) k t) ∙ ap (λ (n : ℕ). bit_of n k) (eqb-true _ 0 e) ∙ no-dot k)
  where
    first : (a c : Bool) → c ≡ true → (a && c) ≡ false → a ≡ false
    first true c e f = sym e ∙ f
    first false c e f = refl

dots-white-byte : (w l i b : ℕ) → ((k : ℕ) → k < 8 → outside w l (i % 76 * 8 + k) (i / 76) ≡ true → bit_of b k ≡ false) → white_byte w l i b ≡ true
dots-white-byte w l i b h = eq-eqb _ 0 (byte-cong _ (λ k. false) (λ k t. both (bit_of b k) (outside w l (i % 76 * 8 + k) (i / 76)) (h k t)))
  where
    both : (a c : Bool) → (c ≡ true → a ≡ false) → (a && c) ≡ false
    both a true h = rw (h refl)
    both a false h = and-false a

-- a byte all of whose dots lie inside
inside : (w l i b : ℕ) → i % 76 * 8 + 8 ≤ w → i / 76 < l → white_byte w l i b ≡ true
inside w l i b h k =
    dots-white-byte w l i b
    (λ n t o. let f : outside w l (i % 76 * 8 + n) (i / 76) ≡ false = rw (lt-ltb (i % 76 * 8 + n) w (omega arith), lt-ltb (i / 76) l k) in
    let z : ◌≡◌ {A = Bool} false true = sym f ∙ o in cc)

module _ (w l : ℕ) (p : List ℕ) where
  -- n bytes that are white outside whatever they are need no look
  skipped : (n m i : ℕ) → i + n ≤ length p → ((j b : ℕ) → i ≤ j → j < i + n → white_byte w l j b ≡ true)
      → white_from w l (i + n) (take m (drop (i + n) p)) ≡ white_from w l i (take (n + m) (drop i p))
  unfolding white_from
  skipped zero m i h e =
      let a : i + 0 ≡ i = omega arith in
      let b : 0 + m ≡ m = omega arith in
      rw (a, b)
  skipped (suc n) m i h e =
      let a : i + suc n ≡ suc i + n = omega arith in
      let b : suc n + m ≡ suc (n + m) = omega arith in
      rw (a, b, drop-cons p i 0 (omega arith), e i (get_or p i 0) (omega arith) (omega arith))
      (skipped n m (suc i) (omega arith) (λ j x s t. e j x (omega arith) (omega arith)))

  -- a row, looked at from the first byte on that may have dots outside
  pub row_from : (y f at end : ℕ) → f ≡ cond (ltb y l) (min (w / 8) 76) 0 → at ≡ y * 76 + f → end ≡ y * 76 + 76 → end ≤ length p
      → white_from w l at (take (end - at) (drop at p)) ≡ white_from w l (y * 76) (take 76 (drop (y * 76) p))
  row_from y f at end ef ea ee h = by (dec_lt y l)
    where
      from : f ≤ 76 → ((j b : ℕ) → y * 76 ≤ j → j < y * 76 + f → white_byte w l j b ≡ true)
          → white_from w l at (take (end - at) (drop at p)) ≡ white_from w l (y * 76) (take 76 (drop (y * 76) p))
      from k e =
          let z : end - at ≡ 76 - f = omega arith in
          let s : f + (76 - f) ≡ 76 = omega arith in
          rw (z, ea) (skipped f (76 - f) (y * 76) (omega arith) e ∙ rw s)

      by : Dec (y < l) → white_from w l at (take (end - at) (drop at p)) ≡ white_from w l (y * 76) (take 76 (drop (y * 76) p))
      by (yes t) =
          let g : f ≡ min (w / 8) 76 = ef ∙ rw (lt-ltb y l t) in
          from (omega arith) (λ j b s r. inside w l j b (omega arith) (omega arith))
      by (no t) =
          let g : f ≡ 0 = ef ∙ rw (not-below y l (omega arith)) in
          from (omega arith) (λ j b s r. absurd (omega arith))

  -- the whole rows from byte i on
  pub rows_left : ℕ → Bool
  rows_left i = white_from w l i (drop i (take (rows p * 76) p))

  pub rows_start : rows_left 0 ≡ white_outside w l p
  unfolding rows_left white_outside white_from
  rows_start = refl

  cons : (i : ℕ) → i < rows p * 76 → drop i (take (rows p * 76) p) ≡ get_or p i 0 ∷ drop (suc i) (take (rows p * 76) p)
  cons i h =
      drop-cons (take (rows p * 76) p) i 0 (rw (length-take (rows p * 76) p) (omega arith))
      ∙ ap (λ (b : ℕ). b ∷ drop (suc i) (take (rows p * 76) p)) (get_or-take (rows p * 76) p i 0 h)

  -- n bytes of them, and the rest
  rows_are : (n i : ℕ) → i + n ≤ rows p * 76 → rows_left i ≡ (white_from w l i (take n (drop i p)) && rows_left (i + n))
  unfolding rows_left white_from
  rows_are zero i h = let z : i + 0 ≡ i = omega arith in rw z
  rows_are (suc n) i h =
      let z : i + suc n ≡ suc i + n = omega arith in
      rw (cons i (omega arith), drop-cons p i 0 (omega arith), z)
      (and-rest (white_byte w l i (get_or p i 0)) (white_from w l (suc i) (take n (drop (suc i) p))) _ _ (rows_are n (suc i) (omega arith)))
    where
      and-rest : (a b c d : Bool) → d ≡ (b && c) → (a && d) ≡ ((a && b) && c)
      and-rest true b c d e = e
      and-rest false b c d e = refl

  module _ (y : ℕ) where
    row_is : y < rows p → rows_left (y * 76) ≡ (white_from w l (y * 76) (take 76 (drop (y * 76) p)) && rows_left ((y + 1) * 76))
    row_is h = let z : (y + 1) * 76 ≡ y * 76 + 76 = omega arith in rw z (rows_are 76 (y * 76) (omega arith))

    pub rows_step : y < rows p → white_from w l (y * 76) (take 76 (drop (y * 76) p)) ≡ true → rows_left ((y + 1) * 76) ≡ rows_left (y * 76)
    rows_step h e = sym (row_is h ∙ rw e)

    pub rows-stop : y < rows p → white_from w l (y * 76) (take 76 (drop (y * 76) p)) ≡ false → false ≡ rows_left (y * 76)
    rows-stop h e = sym (row_is h ∙ rw e)

    pub rows-done : rows p ≤ y → true ≡ rows_left (y * 76)
    unfolding rows_left white_from
    rows-done h =
        let k : length (take (rows p * 76) p) ≤ y * 76 = rw (length-take (rows p * 76) p) (omega arith) in
        rw (drop_of_length-le (take (rows p * 76) p) k)

white-from-byte : (w l i : ℕ) (bs : List ℕ) (j : ℕ) → j < length bs → white_from w l i bs ≡ true → white_byte w l (i + j) (get_or bs j 0) ≡ true
unfolding white_from
white-from-byte w l i [] j h e = absurd (not-suc-le-zero h)
white-from-byte w l i (b ∷ bs) zero h e = ap (λ (n : ℕ). white_byte w l n b) (omega arith) ∙ (and-true (white_byte w l i b) (white_from w l (suc i) bs) e).0
white-from-byte w l i (b ∷ bs) (suc j) h e =
    ap (λ (n : ℕ). white_byte w l n (get_or bs j 0)) (omega arith)
    ∙ white-from-byte w l (suc i) bs j (le_of_suc-le-suc h) (and-true (white_byte w l i b) (white_from w l (suc i) bs) e).1

bytes-white-from : (w l i : ℕ) (bs : List ℕ) → ((j : ℕ) → j < length bs → white_byte w l (i + j) (get_or bs j 0) ≡ true) → white_from w l i bs ≡ true
unfolding white_from
bytes-white-from w l i [] h = refl
bytes-white-from w l i (b ∷ bs) h =
    let e : white_byte w l i b ≡ true = ap (λ (n : ℕ). white_byte w l n b) (omega arith) ∙ h 0 (omega arith) in
    rw e (bytes-white-from w l (suc i) bs (λ j t. ap (λ (n : ℕ). white_byte w l n (get_or bs j 0)) (omega arith) ∙ h (suc j) (suc-le-suc t)))

-- the page is white outside exactly when no dot of a whole row is black there
pub white-outside-dot : (w l : ℕ) (p : List ℕ) (x y : ℕ) → white_outside w l p ≡ true → x < 608 → y < rows p → outside w l x y ≡ true
    → dot_at p x y ≡ false
unfolding white_outside dot_at
white-outside-dot w l p x y e hx hy o =
    let i = y * 76 + x / 8 in
    let col : i % 76 * 8 + x % 8 ≡ x = omega arith in
    let row : i / 76 ≡ y = omega arith in
    white-byte-dot w l i (get_or p i 0) (x % 8) (omega arith)
    ((λ d. white_byte w l (sym (zero-add i) d) (sym (get_or-take (rows p * 76) p i 0 (omega arith)) d))
    ∙ white-from-byte w l 0 (take (rows p * 76) p) i (rw (length-take (rows p * 76) p) (omega arith)) e)
    ((λ d. outside w l (col d) (row d)) ∙ o)

pub dots-white-outside : (w l : ℕ) (p : List ℕ) → ((x y : ℕ) → x < 608 → y < rows p → outside w l x y ≡ true → dot_at p x y ≡ false)
    → white_outside w l p ≡ true
unfolding white_outside dot_at
dots-white-outside w l p h =
    bytes-white-from w l 0 (take (rows p * 76) p) (λ j t. at j (rw (length-take (rows p * 76) p) at t))
  where
    at : (j : ℕ) → j < min (rows p * 76) (length p) → white_byte w l (0 + j) (get_or (take (rows p * 76) p) j 0) ≡ true
    at j t =
        (λ d. white_byte w l (zero-add j d) (get_or-take (rows p * 76) p j 0 (omega arith) d))
        ∙ dots-white-byte w l j (get_or p j 0)
        (λ k s o.
        let col : j / 76 * 76 + (j % 76 * 8 + k) / 8 ≡ j = omega arith in
        let bit : (j % 76 * 8 + k) % 8 ≡ k = omega arith in
        rw (col, bit) at (h (j % 76 * 8 + k) (j / 76) (omega arith) (omega arith) o))

-- pages that are white outside the label, and what keeps them so
pub white-outside-white : (w l n : ℕ) → white_outside w l (white n) ≡ true
white-outside-white w l n = dots-white-outside w l (white n) (λ x y s t o. dot-white n x y)

pub white-outside-drawn : (ink : Ink) (w l : ℕ) (s : ℕ → ℕ → Bool) (p : List ℕ) → white_outside w l p ≡ true → white_outside w l (drawn ink (cut w l s) p) ≡ true
white-outside-drawn ink w l s p e =
    dots-white-outside w l (drawn ink (cut w l s) p)
    (λ x y hx hy o. let k : y < rows p = omega (arith, length-drawn ink (cut w l s) p) in
    dot-drawn ink (cut w l s) p x y hx k
    ∙ ap (λ (t : Bool). cond (t && s x y) (inked ink (dot_at p x y)) (dot_at p x y)) (not-true (ltb x w && ltb y l) o)
    ∙ white-outside-dot w l p x y e hx k o)
