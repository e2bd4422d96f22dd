-- Runs of equal dots in a byte: the rule, computed at each byte, and what it says of a row.
-- Assumes nothing.
use mathlib.Core.Path.{◌≡◌, refl, sym, ap, ◌∙◌}
use mathlib.Core.Bool.{Bool, true, cond, ◌&&◌}
use mathlib.Core.List.{List}
use Prim.Native.Nat.{ℕ, ◌+◌, ◌-◌, ◌/◌, ◌%◌, ◌^◌, ◌≤◌, ◌<◌, min}
use native.Mathlib.Omega.{arith}
use lib.Bits.{bit_and}
use lib.Count.{count_leading_zeros}
use lib.Dec.{leb, ltb}
use lib.ListN.{get_or}
use borrow.Author.Tests.{leb-true, ltb-true, le-leb, lt-ltb}
use Rattle.dots.specs.Dots.{bit_of, within}
use Rattle.dots.proofs.Bits.{all_below, all-below, sameb, sameb-true}
use Rattle.ground.proofs.Tests.{and-true}
use Rattle.figures.specs.Figures.{bit_row}
use Rattle.bitmaps.specs.Run.{Run}

-- where the run ends that starts at dot k of the byte b, as the code has it
abbrev pub end_of : Bool → ℕ → ℕ → ℕ
end_of on b k = count_leading_zeros 8 (bit_and (cond on (255 - b) b) (127 / 2 ^ k))

-- it ends after dot k and not after the byte, and no dot j before its end differs from dot k
ends : ℕ → ℕ → ℕ → ℕ → Bool
ends k j b r = (ltb k r && leb r 8) && cond (within k r j) (sameb (bit_of b j) (bit_of b k)) true

ends_at : ℕ → ℕ → ℕ → Bool
ends_at k j b = ends k j b (end_of (bit_of b k) b k)

all_end : all_below 8 (λ k. all_below 8 (λ j. all_below 256 (ends_at k j))) ≡ true
unfolding ends ends_at count_leading_zeros
all_end = refl

module _ (k b : ℕ) (hk : k < 8) (hb : b < 256) where
  at : (j : ℕ) → j < 8 → ends k j b (end_of (bit_of b k) b k) ≡ true
  unfolding ends_at
  at j hj = all-below 256 (ends_at k j) (all-below 8 (λ j. all_below 256 (ends_at k j)) (all-below 8 (λ k. all_below 8 (λ j. all_below 256 (ends_at k j))) all_end k hk) j hj) b hb

  start : (ltb k (end_of (bit_of b k) b k) && leb (end_of (bit_of b k) b k) 8) ≡ true
  unfolding ends
  start = (and-true (ltb k (end_of (bit_of b k) b k) && leb (end_of (bit_of b k) b k) 8) _ (at k hk)).0

  equal : (j : ℕ) → k ≤ j → j < end_of (bit_of b k) b k → j < 8 → bit_of b j ≡ bit_of b k
  unfolding ends
  equal j p q hj =
      sameb-true _ _ (sym (ap (λ (t : Bool). cond t (sameb (bit_of b j) (bit_of b k)) true) (inside p q))
      ∙ (and-true (ltb k (end_of (bit_of b k) b k) && leb (end_of (bit_of b k) b k) 8) _ (at j hj)).1)
    where
      inside : k ≤ j → j < end_of (bit_of b k) b k → within k (end_of (bit_of b k) b k) j ≡ true
      inside p q = rw (le-leb k j p, lt-ltb j (end_of (bit_of b k) b k) q)

  computed : Run (bit_of b) k 8 (end_of (bit_of b k) b k)
  computed =
      let t = and-true (ltb k (end_of (bit_of b k) b k)) _ start in
      let m = leb-true _ _ t.1 in
      record { more = ltb-true _ _ t.0; inside = m; same = λ j p q. equal j p q (omega (arith, m)) }

pub byte-run : (b k r : ℕ) (on : Bool) → b < 256 → k < 8 → on ≡ bit_of b k → r ≡ end_of on b k → Run (bit_of b) k 8 r
byte-run b k r on hb hk o e = rw (e, o) (computed k b hk hb)

-- a run of the byte of dot g is one of the row, as far as the row goes
pub row-run : (bytes : List ℕ) (at g w b end n : ℕ) → g < w → b ≡ get_or bytes (at + g / 8) 0 → Run (bit_of b) (g % 8) 8 end → n ≡ min (end - g % 8) (w - g)
    → Run (bit_row bytes at) g w (g + n)
row-run bytes at g w b end n h e R m =
    record { more = omega (arith, R.more); inside = omega arith; same = λ j p q. dot j p q ∙ R.same (g % 8 + (j - g)) (omega arith) (omega (arith, R.more)) ∙ first }
  where
    dot : (j : ℕ) → g ≤ j → j < g + n → bit_row bytes at j ≡ bit_of b (g % 8 + (j - g))
    dot j p q =
        let same_byte : j / 8 ≡ g / 8 = omega (arith, R.more, R.inside) in
        let place : j % 8 ≡ g % 8 + (j - g) = omega (arith, R.more, R.inside) in
        rw (e, same_byte, place)

    first : bit_of b (g % 8) ≡ bit_row bytes at g
    first = ap (λ (n : ℕ). bit_of n (g % 8)) e
