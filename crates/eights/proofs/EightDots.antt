-- The eight dots of a byte set on the page from any dot on: in two bytes of a row, and in one row after the other.
-- Assumes nothing.
use mathlib.Core.Path.{◌≡◌, refl, sym, ap, ◌∙◌}
use mathlib.Core.Bool.{Bool, true, false, ◌&&◌, ◌||◌}
use mathlib.Core.Logic.{◌⊎◌, inl, inr}
use mathlib.Core.List.{List}
use Prim.Native.Nat.{ℕ, ◌+◌, ◌-◌, ◌*◌, ◌/◌, ◌%◌, ◌^◌, ◌≤◌, ◌<◌}
use native.Mathlib.Decide.{dec_lt}
use native.Mathlib.Omega.{arith}
use lib.Dec.{leb, ltb}
use borrow.Author.Tests.{leb-true, ltb-true, le-leb, lt-ltb}
use Rattle.ground.proofs.Tests.{and-true, is_false}
use Rattle.dots.specs.declared.Ink.{Ink}
use Rattle.dots.specs.Dots.{drawn, box, bit_of, rows}
use Rattle.eights.specs.Eights.{eights}
use Rattle.dots.proofs.Bits.{sameb, sameb-true, all_below, all-below}
use Rattle.dots.proofs.Pages.{Bytes, drawn-join, drawn-ext, drawn-off}
use Rattle.dots.proofs.Shapes.{In, in-box, box_in, same_test, join-test}

-- ---- the byte m, s dots further right, in two bytes: the rule, computed at each byte
abbrev pub pair_of : ℕ → ℕ → ℕ
pair_of m s = m * 256 / 2 ^ s

right : ℕ → ℕ → ℕ → Bool
right s k m =
    sameb (bit_of (pair_of m s / 256) k) (leb s k && bit_of m (k - s))
    && (sameb (bit_of (pair_of m s % 256) k) (ltb k s && bit_of m (8 + k - s)) && ltb (pair_of m s / 256) 256)

all_right : all_below 8 (λ s. all_below 8 (λ k. all_below 256 (right s k))) ≡ true
unfolding right
all_right = refl

module _ (s k m : ℕ) (hs : s < 8) (hk : k < 8) (hm : m < 256) where
  at : right s k m ≡ true
  at = all-below 256 (right s k) (all-below 8 (λ k. all_below 256 (right s k)) (all-below 8 (λ s. all_below 8 (λ k. all_below 256 (right s k))) all_right s hs) k hk) m hm

  pub high_bit : bit_of (pair_of m s / 256) k ≡ (leb s k && bit_of m (k - s))
  unfolding right
  high_bit = sameb-true _ _ (and-true (sameb (bit_of (pair_of m s / 256) k) (leb s k && bit_of m (k - s))) _ at).0

  rest : (sameb (bit_of (pair_of m s % 256) k) (ltb k s && bit_of m (8 + k - s)) && ltb (pair_of m s / 256) 256) ≡ true
  unfolding right
  rest = (and-true (sameb (bit_of (pair_of m s / 256) k) (leb s k && bit_of m (k - s))) _ at).1

  pub low_bit : bit_of (pair_of m s % 256) k ≡ (ltb k s && bit_of m (8 + k - s))
  low_bit = sameb-true _ _ (and-true (sameb (bit_of (pair_of m s % 256) k) (ltb k s && bit_of m (8 + k - s))) _ rest).0

  pub high_fits : pair_of m s / 256 < 256
  high_fits = ltb-true _ _ (and-true (sameb (bit_of (pair_of m s % 256) k) (ltb k s && bit_of m (8 + k - s))) (ltb (pair_of m s / 256) 256) rest).1

-- ---- the test as facts
pub record InEights (x y0 y1 m a b : ℕ) : Type 0 where
  pub there : In x y0 (x + 8) y1 a b
  pub bit : bit_of m (a - x) ≡ true

pub eights-says : (x y0 y1 m a b : ℕ) → eights x y0 y1 m a b ≡ true → InEights x y0 y1 m a b
unfolding eights
eights-says x y0 y1 m a b e =
    let h = and-true (box x y0 (x + 8) y1 a b) (bit_of m (a - x)) e in
    record { there = in-box x y0 (x + 8) y1 a b h.0; bit = h.1 }

pub says-eights : (x y0 y1 m a b : ℕ) → InEights x y0 y1 m a b → eights x y0 y1 m a b ≡ true
unfolding eights
says-eights x y0 y1 m a b h = rw (box_in x y0 (x + 8) y1 a b h.there) h.bit

eights-off : (x y0 y1 m a b : ℕ) → (In x y0 (x + 8) y1 a b → ⊥) → eights x y0 y1 m a b ≡ false
eights-off x y0 y1 m a b n = is_false (eights x y0 y1 m a b) (λ e. n (eights-says x y0 y1 m a b e).there)

-- no row of them, or none on the page
pub eights-none : (ink : Ink) (x y0 y1 m : ℕ) (p : List ℕ) → Bytes p → ((a b : ℕ) → a < 608 → b < rows p → In x y0 (x + 8) y1 a b → ⊥)
    → p ≡ drawn ink (eights x y0 y1 m) p
eights-none ink x y0 y1 m p by n = sym (drawn-off ink (eights x y0 y1 m) p by (λ a b s t. eights-off x y0 y1 m a b (n a b s t)))

-- ---- in one byte of the page
module _ (i y m : ℕ) (hi : i < 76) where
  pub eights-here : (k : ℕ) → k < 8 → bit_of m k ≡ eights (i * 8) y (y + 1) m ((y * 76 + i) % 76 * 8 + k) ((y * 76 + i) / 76)
  eights-here k t =
      let c : (y * 76 + i) % 76 * 8 + k - i * 8 ≡ k = omega arith in
      same_test (bit_of m k) (eights (i * 8) y (y + 1) m ((y * 76 + i) % 76 * 8 + k) ((y * 76 + i) / 76))
      (λ e. says-eights (i * 8) y (y + 1) m _ _ (record { there = record { left = omega arith; right = omega arith; top = omega arith; bottom = omega arith }; bit = rw c e }))
      (λ e. rw c at (eights-says (i * 8) y (y + 1) m _ _ e).bit)

  pub eights-other : (j k : ℕ) → (j ≡ y * 76 + i → ⊥) → k < 8 → eights (i * 8) y (y + 1) m (j % 76 * 8 + k) (j / 76) ≡ false
  eights-other j k n t = eights-off (i * 8) y (y + 1) m (j % 76 * 8 + k) (j / 76) (λ h. n (omega arith))

-- ---- in two bytes of the page
module _ (ink : Ink) (x y m : ℕ) (p q r : List ℕ) (hm : m < 256) where
  abbrev L : ℕ → ℕ → Bool
  L = eights (x / 8 * 8) y (y + 1) (pair_of m (x % 8) / 256)

  abbrev R : ℕ → ℕ → Bool
  R = eights ((x / 8 + 1) * 8) y (y + 1) (pair_of m (x % 8) % 256)

  pub then-pair : q ≡ drawn ink L p → r ≡ drawn ink R q → r ≡ drawn ink (eights x y (y + 1) m) p
  then-pair e f = f ∙ ap (drawn ink R) e ∙ drawn-join ink L R (eights x y (y + 1) m) p joins
    where
      split : (a b : ℕ) → InEights x y (y + 1) m a b → Dec (a < (x / 8 + 1) * 8) → (L a b ≡ true) ⊎ (R a b ≡ true)
      split a b h (yes t) =
          let w = h.there in
          let z : a - x / 8 * 8 - x % 8 ≡ a - x = omega arith in
          inl (says-eights (x / 8 * 8) y (y + 1) (pair_of m (x % 8) / 256) a b
          (record {
            there = omega arith;
            bit = high_bit (x % 8) (a - x / 8 * 8) m (omega arith) (omega arith) hm ∙ rw (le-leb (x % 8) (a - x / 8 * 8) (omega arith), z) h.bit;
          }))
      split a b h (no t) =
          let w = h.there in
          let z : 8 + (a - (x / 8 + 1) * 8) - x % 8 ≡ a - x = omega arith in
          inr (says-eights ((x / 8 + 1) * 8) y (y + 1) (pair_of m (x % 8) % 256) a b
          (record {
            there = omega arith;
            bit = low_bit (x % 8) (a - (x / 8 + 1) * 8) m (omega arith) (omega arith) hm ∙ rw (lt-ltb (a - (x / 8 + 1) * 8) (x % 8) (omega arith), z) h.bit;
          }))

      joins : (a b : ℕ) → (eights x y (y + 1) m a b ≡ (L a b || R a b)) × ((L a b && R a b) ≡ false)
      joins a b =
          join-test (L a b) (R a b) (eights x y (y + 1) m a b)
          (λ e. let h = eights-says (x / 8 * 8) y (y + 1) (pair_of m (x % 8) / 256) a b e in
          let w = h.there in
          let k = and-true (leb (x % 8) (a - x / 8 * 8)) (bit_of m (a - x / 8 * 8 - x % 8)) (sym (high_bit (x % 8) (a - x / 8 * 8) m (omega arith) (omega arith) hm) ∙ h.bit) in
          let s = leb-true (x % 8) (a - x / 8 * 8) k.0 in
          let z : a - x / 8 * 8 - x % 8 ≡ a - x = omega arith in
          says-eights x y (y + 1) m a b (record { there = omega arith; bit = rw z at k.1 }))
          (λ e. let h = eights-says ((x / 8 + 1) * 8) y (y + 1) (pair_of m (x % 8) % 256) a b e in
          let w = h.there in
          let k = and-true (ltb (a - (x / 8 + 1) * 8) (x % 8)) (bit_of m (8 + (a - (x / 8 + 1) * 8) - x % 8)) (sym (low_bit (x % 8) (a - (x / 8 + 1) * 8) m (omega arith) (omega arith) hm) ∙ h.bit) in
          let s = ltb-true (a - (x / 8 + 1) * 8) (x % 8) k.0 in
          let z : 8 + (a - (x / 8 + 1) * 8) - x % 8 ≡ a - x = omega arith in
          says-eights x y (y + 1) m a b (record { there = omega arith; bit = rw z at k.1 }))
          (λ e. split a b (eights-says x y (y + 1) m a b e) (dec_lt a ((x / 8 + 1) * 8)))
          (λ e d. let h = eights-says (x / 8 * 8) y (y + 1) (pair_of m (x % 8) / 256) a b e in
          let k = eights-says ((x / 8 + 1) * 8) y (y + 1) (pair_of m (x % 8) % 256) a b d in
          omega (arith, h.there.right, k.there.left))

-- ---- one row more
pub then-row : (ink : Ink) (x y0 y m : ℕ) (p q r : List ℕ) → y0 ≤ y → q ≡ drawn ink (eights x y0 y m) p → r ≡ drawn ink (eights x y (y + 1) m) q
    → r ≡ drawn ink (eights x y0 (y + 1) m) p
then-row ink x y0 y m p q r h e f =
    f ∙ ap (drawn ink (eights x y (y + 1) m)) e ∙ drawn-join ink (eights x y0 y m) (eights x y (y + 1) m) (eights x y0 (y + 1) m) p joins
  where
    moved : (u v u' v' a b : ℕ) → InEights x u v m a b → u' ≤ b → b < v' → eights x u' v' m a b ≡ true
    moved u v u' v' a b i s t =
        says-eights x u' v' m a b (record { there = record { left = i.there.left; right = i.there.right; top = s; bottom = t }; bit = i.bit })

    split : (a b : ℕ) → InEights x y0 (y + 1) m a b → Dec (b < y) → (eights x y0 y m a b ≡ true) ⊎ (eights x y (y + 1) m a b ≡ true)
    split a b i (yes t) = inl (moved y0 (y + 1) y0 y a b i i.there.top t)
    split a b i (no t) = inr (moved y0 (y + 1) y (y + 1) a b i (omega arith) i.there.bottom)

    joins : (a b : ℕ) → (eights x y0 (y + 1) m a b ≡ (eights x y0 y m a b || eights x y (y + 1) m a b)) × ((eights x y0 y m a b && eights x y (y + 1) m a b) ≡ false)
    joins a b =
        join-test (eights x y0 y m a b) (eights x y (y + 1) m a b) (eights x y0 (y + 1) m a b)
        (λ e. let i = eights-says x y0 y m a b e in moved y0 y y0 (y + 1) a b i i.there.top (omega (arith, i.there.bottom)))
        (λ e. let i = eights-says x y (y + 1) m a b e in moved y (y + 1) y0 (y + 1) a b i (omega (arith, i.there.top)) i.there.bottom)
        (λ e. split a b (eights-says x y0 (y + 1) m a b e) (dec_lt b y))
        (λ e d. let i = eights-says x y0 y m a b e in let k = eights-says x y (y + 1) m a b d in omega (arith, i.there.bottom, k.there.top))

-- rows that end elsewhere, but have the same dots of the page
pub as-eights : (ink : Ink) (x y0 y y1 m : ℕ) (p q : List ℕ) → ((b : ℕ) → y0 ≤ b → b < rows p → b < y → b < y1)
    → ((b : ℕ) → y0 ≤ b → b < rows p → b < y1 → b < y) → q ≡ drawn ink (eights x y0 y m) p → q ≡ drawn ink (eights x y0 y1 m) p
as-eights ink x y0 y y1 m p q f g e =
    e ∙ drawn-ext ink (eights x y0 y m) (eights x y0 y1 m) p (λ a b s t.
    same_test (eights x y0 y m a b) (eights x y0 y1 m a b) (ended y y1 a b (λ h k. f b h t k)) (ended y1 y a b (λ h k. g b h t k)))
  where
    ended : (v v' a b : ℕ) → (y0 ≤ b → b < v → b < v') → eights x y0 v m a b ≡ true → eights x y0 v' m a b ≡ true
    ended v v' a b h e =
        let i = eights-says x y0 v m a b e in
        says-eights x y0 v' m a b
        (record { there = record { left = i.there.left; right = i.there.right; top = i.there.top; bottom = h i.there.top i.there.bottom }; bit = i.bit })
