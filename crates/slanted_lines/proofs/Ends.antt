-- A line's dots are those of its ends' discs, and those of the strip whose foot lies between the ends. A dot within half of c of an end is near wherever its
-- foot lies: the cross product is at most the distance to that end times the length.
-- Assumes nothing.
use mathlib.Core.Path.{◌≡◌, refl, ◌∙◌}
use mathlib.Core.Bool.{Bool, true, false, ◌&&◌, ◌||◌, false≢true}
use mathlib.Core.Logic.{◌⊎◌, inl, inr}
use Prim.Native.Nat.{ℕ, ◌+◌, ◌*◌, ◌/◌, ◌≤◌, ◌<◌}
use native.Mathlib.Nat.{mul-le-mul, mul-le-mul_right}
use native.Mathlib.Decide.{dec_lt}
use native.Mathlib.Omega.{arith}
use lib.Dec.{leb, ltb}
use borrow.Author.Tests.{leb-true, ltb-true, le-leb, lt-ltb}
use Rattle.ground.proofs.Tests.{and-true}
use Rattle.dots.proofs.Shapes.{same_test}
use Rattle.slanted_lines.specs.declared.Line.{Line}
use Rattle.slanted_lines.specs.Slanted.{gap, squared, cross, near}
use Rattle.slanted_lines.specs.Code.{Root, near_line, strip, foot}
use Rattle.slanted_lines.proofs.Gaps.{Apart, apart, apart-square, gap-at-most}
use Rattle.slanted_lines.proofs.Near.{NearTold, test, near-test, near-told, near-sym, beside_first, beside-second, between_ends}
use Rattle.slanted_lines.proofs.Middle.{small-in-strip, strip-small}

-- ---- the cross product
product-apart : (x a e b u n : ℕ) → Apart x a u → Apart b e n → (x * e + a * b ≤ x * b + a * e + u * n) × (x * b + a * e ≤ x * e + a * b + u * n)
product-apart x a e b u n (inl i) (inl j) = rw (i, j) (omega arith, omega arith)
product-apart x a e b u n (inl i) (inr j) = rw (i, j) (omega arith, omega arith)
product-apart x a e b u n (inr i) (inl j) = rw (i, j) (omega arith, omega arith)
product-apart x a e b u n (inr i) (inr j) = rw (i, j) (omega arith, omega arith)

cross-at-most : (a b d e x y : ℕ) → cross a b d e x y ≤ gap x a * gap b e + gap y b * gap a d
unfolding cross
cross-at-most a b d e x y =
    let s = product-apart x a e b (gap x a) (gap b e) (apart x a) (apart b e) in
    let t = product-apart y b d a (gap y b) (gap a d) (apart y b) (apart a d) in
    gap-at-most (x * e + y * a + b * d) (x * b + a * e + y * d) (gap x a * gap b e + gap y b * gap a d) (omega arith) (omega arith)

-- the square of a sum of products is at most the product of the sums of squares
sum-square : (u v m n : ℕ) → (u * n + v * m) * (u * n + v * m) ≤ (u * u + v * v) * (m * m + n * n)
sum-square u v m n = omega (arith, apart-square (u * m) (v * n) (gap (u * m) (v * n)) (apart (u * m) (v * n)))

cross-square : (a b d e x y : ℕ) → cross a b d e x y * cross a b d e x y ≤ squared x y a b * squared a b d e
unfolding squared
cross-square a b d e x y =
    let h = cross-at-most a b d e x y in
    omega (arith, mul-le-mul h h, sum-square (gap x a) (gap y b) (gap a d) (gap b e))

-- ---- the discs
disc-test : (c p q l w : ℕ) → w * w ≤ p * l → 4 * p ≤ c * c → test c p q l w ≡ true
disc-test c p q l w h k = at (dec_lt q (p + l)) (dec_lt p (q + l))
  where
    at : Dec (q < p + l) → Dec (p < q + l) → test c p q l w ≡ true
    at (no s) t = beside_first c p q l w (omega arith) ∙ le-leb (4 * p) (c * c) k
    at (yes s) (no t) = beside-second c p q l w s (omega arith) ∙ le-leb (4 * q) (c * c) (omega arith)
    at (yes s) (yes t) = between_ends c p q l w s t ∙ le-leb (4 * (w * w)) (c * c * l) (omega (arith, mul-le-mul_right l k))

pub disc-near : (a b c d e x y : ℕ) → 4 * squared x y a b ≤ c * c → near a b c d e x y ≡ true
disc-near a b c d e x y h =
    near-test a b c d e x y
    ∙ disc-test c (squared x y a b) (squared x y d e) (squared a b d e) (cross a b d e x y) (cross-square a b d e x y) h

-- ---- all dots
one_of : (a b c : Bool) → (a ≡ true) ⊎ ((b ≡ true) ⊎ (c ≡ true)) → ((a || b) || c) ≡ true
one_of true b c h = refl
one_of false true c h = refl
one_of false false c (inl h) = absurd (false≢true h)
one_of false false c (inr (inl h)) = absurd (false≢true h)
one_of false false c (inr (inr h)) = h

which : (a b c : Bool) → ((a || b) || c) ≡ true → (a ≡ true) ⊎ ((b ≡ true) ⊎ (c ≡ true))
which true b c h = inl refl
which false true c h = inr (inl refl)
which false false c h = inr (inr h)

module _ (l : Line) (r x y : ℕ) (R : Root (l.c * l.c * squared l.a l.b l.d l.e / 4) r) where
  abbrev upper : Bool
  upper = leb (4 * squared x y l.a l.b) (l.c * l.c)

  abbrev lower : Bool
  lower = leb (4 * squared x y l.d l.e) (l.c * l.c)

  told : near_line l x y ≡ true → (upper ≡ true) ⊎ ((lower ≡ true) ⊎ ((strip r l x y && foot l x y) ≡ true))
  told h = at (near-told l.a l.b l.c l.d l.e x y h)
    where
      at : NearTold l.a l.b l.c l.d l.e x y → (upper ≡ true) ⊎ ((lower ≡ true) ⊎ ((strip r l x y && foot l x y) ≡ true))
      at (inl k) = inl (le-leb _ _ k)
      at (inr (inl k)) = inr (inl (le-leb _ _ k))
      at (inr (inr k)) = inr (inr (rw (le-leb _ _ (small-in-strip l.c _ _ r R k.small), lt-ltb _ _ k.first, lt-ltb _ _ k.second)))

  enough : (upper ≡ true) ⊎ ((lower ≡ true) ⊎ ((strip r l x y && foot l x y) ≡ true)) → near_line l x y ≡ true
  enough (inl h) = disc-near l.a l.b l.c l.d l.e x y (leb-true _ _ h)
  enough (inr (inl h)) = near-sym l.a l.b l.c l.d l.e x y ∙ disc-near l.d l.e l.c l.a l.b x y (leb-true _ _ h)
  enough (inr (inr h)) =
      let k = and-true (strip r l x y) (foot l x y) h in
      let i = and-true (ltb (squared x y l.d l.e) (squared x y l.a l.b + squared l.a l.b l.d l.e))
      (ltb (squared x y l.a l.b) (squared x y l.d l.e + squared l.a l.b l.d l.e)) k.1 in
      near-test l.a l.b l.c l.d l.e x y
      ∙ between_ends l.c (squared x y l.a l.b) (squared x y l.d l.e) (squared l.a l.b l.d l.e) (cross l.a l.b l.d l.e x y)
      (ltb-true _ _ i.0) (ltb-true _ _ i.1)
      ∙ le-leb _ _ (strip-small l.c (squared l.a l.b l.d l.e) (cross l.a l.b l.d l.e x y) r R (leb-true _ r k.0))

  pub near-three : near_line l x y ≡ ((upper || lower) || (strip r l x y && foot l x y))
  near-three =
      same_test _ _ (λ h. one_of upper lower (strip r l x y && foot l x y) (told h)) (λ h. enough (which upper lower (strip r l x y && foot l x y) h))
