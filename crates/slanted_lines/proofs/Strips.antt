-- The strip along a line in one row, and the columns whose foot lies between the ends: their two sides, and the columns between them as the code divides.
-- Assumes nothing.
use mathlib.Core.Path.{◌≡◌, ◌∙◌}
use mathlib.Core.Bool.{Bool, true, ◌&&◌}
use mathlib.Core.Logic.{◌↔◌}
use Prim.Native.Nat.{ℕ, ◌+◌, ◌-◌, ◌*◌, ◌/◌, ◌≤◌, ◌<◌, min, max}
use native.Mathlib.Nat.{div-lt_iff_lt-mul}
use native.Mathlib.Decide.{dec_lt}
use native.Mathlib.Omega.{arith}
use lib.Dec.{leb, ltb}
use borrow.Author.Tests.{leb-true, ltb-true, le-leb, lt-ltb}
use Rattle.ground.proofs.Tests.{and-true}
use Rattle.dots.proofs.Shapes.{same_test}
use Rattle.slanted_lines.specs.declared.Line.{Line}
use Rattle.slanted_lines.specs.declared.Span.{Span}
use Rattle.slanted_lines.specs.Slanted.{squared, cross}
use Rattle.slanted_lines.specs.Code.{Reached, Crossed, Footed, CrossedFooted, strip, foot, run}
use Rattle.slanted_lines.proofs.Gaps.{gap-at-most, at-most-gap}
use Rattle.slanted_lines.proofs.Near.{squared-sym}
use Rattle.slanted_lines.proofs.Expected.{foot as foot-law}

-- ---- the first column where m x + t is s or more, as the code divides
first-column : (s t m x : ℕ) → 0 < m → ((s - t + (m - 1)) / m ≤ x) ↔ (s ≤ m * x + t)
first-column s t m x h =
    let k = div-lt_iff_lt-mul {k = m} {x = s - t + (m - 1)} {y = x + 1} h in
    (λ e. let g = k.0 (omega arith) in omega arith, λ e. let g = k.1 (omega arith) in omega arith)

pub reached-by : (m s t : ℕ) → 0 < m → Reached m s t ((s - t + (m - 1)) / m)
reached-by m s t h = record { after = λ x z k. (first-column s t m x h).1 k; before = λ x z k. (first-column s t m x h).0 k }

pub never-reached : (m s t : ℕ) → m ≡ 0 → t < s → Reached m s t 608
never-reached m s t e h = record { after = λ x z k. let i = rw e at k in omega arith; before = λ x z k. omega arith }

-- the columns from the first of one kind up to the first of another
run-between : (m s t u v x : ℕ) (r : Span) (b : Bool) → Reached m s t r.from → Reached m u v r.to → x < 608
    → (b ≡ true → (s ≤ m * x + t) × (m * x + v < u)) → (s ≤ m * x + t → m * x + v < u → b ≡ true) → b ≡ run r x 0
run-between m s t u v x r b F T z f g =
    same_test _ _
    (λ h. let k = f h in rw (le-leb r.from x (F.after x z k.0), lt-ltb x r.to (below k.1 (dec_lt x r.to))))
    (λ h. let k = and-true (leb r.from x) (ltb x r.to) h in
    g (F.before x z (leb-true r.from x k.0)) (not_yet (ltb-true x r.to k.1) (dec_lt (m * x + v) u)))
  where
    below : m * x + v < u → Dec (x < r.to) → x < r.to
    below h (yes k) = k
    below h (no k) = absurd (let i = T.before x z (omega arith) in let w : ⊥ = omega arith in w)

    not_yet : x < r.to → Dec (m * x + v < u) → m * x + v < u
    not_yet h (yes k) = k
    not_yet h (no k) = absurd (let i = T.after x z (omega arith) in let w : ⊥ = omega arith in w)

-- ---- the two sides of the strip, of a line that falls by n rows
abbrev Sides : ℕ → ℕ → ℕ → ℕ → ℕ → ℕ → ℕ → ℕ → Type 0
Sides a b d e x y n r =
    (n * x + (y * a + b * d) ≤ a * e + y * d + r) × (a * e + y * d ≤ n * x + (y * a + b * d) + r)

sides : (a b d e x y n r : ℕ) → e ≡ b + n → cross a b d e x y ≤ r → Sides a b d e x y n r
unfolding cross
sides a b d e x y n r i h =
    rw i (let k = at-most-gap (x * (b + n) + y * a + b * d) (x * b + a * (b + n) + y * d) r (rw i at h) in (omega arith, omega arith))

between-sides : (a b d e x y n r : ℕ) → e ≡ b + n → Sides a b d e x y n r → cross a b d e x y ≤ r
unfolding cross
between-sides a b d e x y n r i h =
    let k = rw i at h in
    rw i (gap-at-most (x * (b + n) + y * a + b * d) (x * b + a * (b + n) + y * d) r (omega arith) (omega arith))

-- the columns of row y
pub crossed : (r : ℕ) (l : Line) (y ahead behind n : ℕ) (s : Span) → l.e ≡ l.b + n → ahead ≡ y * l.a + l.b * l.d
    → behind ≡ l.a * l.e + y * l.d → Reached n behind (ahead + r) s.from → Reached n (behind + r + 1) ahead s.to → Crossed r l y s
crossed r l y ahead behind n s e ea eb F T = record {
  columns = λ x z. run-between n behind (ahead + r) (behind + r + 1) ahead x s (strip r l x y) F T z
      (λ h. let k = sides l.a l.b l.d l.e x y n r e (leb-true _ r h) in (omega arith, omega arith))
      (λ h k. le-leb _ r (between-sides l.a l.b l.d l.e x y n r e (omega arith, omega arith)));
}

-- ---- the foot, of a line that falls by n rows
foot-first : (a b d e x y n : ℕ) → e ≡ b + n → (squared x y d e < squared x y a b + squared a b d e) ↔ (x * a + a * d + b * n < x * d + a * a + y * n)
foot-first a b d e x y n i = rw i (let k = foot-law a b d (b + n) x y in (λ h. omega arith, λ h. omega arith))

foot-second : (a b d e x y n : ℕ) → e ≡ b + n → (squared x y a b < squared x y d e + squared a b d e) ↔ (x * d + a * d + y * n < x * a + d * d + e * n)
foot-second a b d e x y n i =
    rw i (let k = foot-law d (b + n) a b x y in let s = squared-sym a b d (b + n) in (λ h. omega arith, λ h. omega arith))

-- the columns of row y of a line that goes right by m columns, and of one that goes left
module _ (l : Line) (y n m : ℕ) (s : Span) (e : l.e ≡ l.b + n) where
  both-feet : (x : ℕ) → foot l x y ≡ true
      → (x * l.a + l.a * l.d + l.b * n < x * l.d + l.a * l.a + y * n) × (x * l.d + l.a * l.d + y * n < x * l.a + l.d * l.d + l.e * n)
  both-feet x h =
      let k = and-true (ltb (squared x y l.d l.e) (squared x y l.a l.b + squared l.a l.b l.d l.e))
      (ltb (squared x y l.a l.b) (squared x y l.d l.e + squared l.a l.b l.d l.e)) h in
      ((foot-first l.a l.b l.d l.e x y n e).0 (ltb-true _ _ k.0), (foot-second l.a l.b l.d l.e x y n e).0 (ltb-true _ _ k.1))

  feet-both : (x : ℕ) → x * l.a + l.a * l.d + l.b * n < x * l.d + l.a * l.a + y * n
      → x * l.d + l.a * l.d + y * n < x * l.a + l.d * l.d + l.e * n → foot l x y ≡ true
  feet-both x h k =
      rw (lt-ltb _ _ ((foot-first l.a l.b l.d l.e x y n e).1 h), lt-ltb _ _ ((foot-second l.a l.b l.d l.e x y n e).1 k))

  pub footed-right : l.d ≡ l.a + m → Reached m (m * l.a + l.b * n + 1) (y * n) s.from → Reached m (m * l.d + l.e * n) (y * n) s.to → Footed l y s
  footed-right g F T = record {
    columns = λ x z. run-between m (m * l.a + l.b * n + 1) (y * n) (m * l.d + l.e * n) (y * n) x s (foot l x y) F T z
        (λ h. let k = rw g at (both-feet x h) in rw g (omega arith, omega arith))
        (λ h k. feet-both x (rw g (omega arith)) (let i = rw g at k in rw g (omega arith)));
  }

  pub footed-left : l.a ≡ l.d + m → Reached m (m * l.d + y * n + 1) (l.e * n) s.from → Reached m (m * l.a + y * n) (l.b * n) s.to → Footed l y s
  footed-left g F T = record {
    columns = λ x z. run-between m (m * l.d + y * n + 1) (l.e * n) (m * l.a + y * n) (l.b * n) x s (foot l x y) F T z
        (λ h. let k = rw g at (both-feet x h) in rw g (omega arith, omega arith))
        (λ h k. feet-both x (let i = rw g at k in rw g (omega arith)) (rw g (omega arith)));
  }

-- ---- both
pub crossed-footed : (r : ℕ) (l : Line) (y : ℕ) (s f u : Span) → Crossed r l y s → Footed l y f → u.from ≡ max s.from f.from → u.to ≡ min s.to f.to
    → CrossedFooted r l y u
crossed-footed r l y s f u C F ef et = record {
  columns = λ x z. (λ i. C.columns x z i && F.columns x z i) ∙ same_test _ _
      (λ h. let k = and-true (run s x y) (run f x y) h in
      let i = and-true (leb s.from x) (ltb x s.to) k.0 in
      let j = and-true (leb f.from x) (ltb x f.to) k.1 in
      rw (
        le-leb u.from x (omega (arith, leb-true s.from x i.0, leb-true f.from x j.0)),
        lt-ltb x u.to (omega (arith, ltb-true x s.to i.1, ltb-true x f.to j.1)),
      ))
      (λ h. let k = and-true (leb u.from x) (ltb x u.to) h in
      let i = leb-true u.from x k.0 in
      let j = ltb-true x u.to k.1 in
      rw (le-leb s.from x (omega arith), lt-ltb x s.to (omega arith), le-leb f.from x (omega arith), lt-ltb x f.to (omega arith)));
}
