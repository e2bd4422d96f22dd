-- Parts of a shape: the dots of it that lie in a box. A line is drawn part by part, run by run and row by row.
-- Assumes nothing.
use mathlib.Core.Path.{◌≡◌, refl, sym, ap, ◌∙◌}
use mathlib.Core.Bool.{Bool, true, false, ◌&&◌, ◌||◌, and-false, or-false}
use mathlib.Core.Logic.{◌⊎◌, inl, inr, ⊎_elim}
use mathlib.Core.List.{List}
use Prim.Native.Nat.{ℕ, ◌≤◌, ◌<◌}
use native.Mathlib.Decide.{dec_lt}
use native.Mathlib.Omega.{arith}
use Rattle.dots.specs.declared.Ink.{Ink}
use Rattle.dots.specs.Dots.{rows, box, drawn}
use Rattle.ground.proofs.Tests.{and-true}
use Rattle.dots.proofs.Pages.{Bytes, drawn-join, drawn-ext, drawn-off}
use Rattle.dots.proofs.Shapes.{In, in-box, box_in, not-in-box, same_test, join-test}
use Rattle.slanted_lines.specs.Code.{part}

module _ (ink : Ink) (s : ℕ → ℕ → Bool) (p q : List ℕ) where
  -- no dot of the page
  pub part_none : (x0 y0 x1 y1 : ℕ) → Bytes p → ((x y : ℕ) → In x0 y0 x1 y1 x y → ⊥) → p ≡ drawn ink (part x0 y0 x1 y1 s) p
  part_none x0 y0 x1 y1 by n =
      sym (drawn-off ink (part x0 y0 x1 y1 s) p by (λ x y i j. ap (λ (b : Bool). b && s x y) (not-in-box x0 y0 x1 y1 x y (n x y))))

  -- a part is a shape that has the same dots of the page
  pub part-is : (x0 y0 x1 y1 : ℕ) (t : ℕ → ℕ → Bool) → q ≡ drawn ink (part x0 y0 x1 y1 s) p
      → ((x y : ℕ) → x < 608 → y < rows p → In x0 y0 x1 y1 x y → s x y ≡ true → t x y ≡ true)
      → ((x y : ℕ) → x < 608 → y < rows p → t x y ≡ true → In x0 y0 x1 y1 x y × (s x y ≡ true)) → q ≡ drawn ink t p
  part-is x0 y0 x1 y1 t e f g =
      e ∙ drawn-ext ink (part x0 y0 x1 y1 s) t p (λ x y i j.
      same_test (part x0 y0 x1 y1 s x y) (t x y)
      (λ h. let k = and-true (box x0 y0 x1 y1 x y) (s x y) h in f x y i j (in-box x0 y0 x1 y1 x y k.0) k.1)
      (λ h. let k = g x y i j h in rw (box_in x0 y0 x1 y1 x y k.0) k.1))

  -- shapes that agree in the box
  pub part_ext : (t : ℕ → ℕ → Bool) (x0 y0 x1 y1 : ℕ) → q ≡ drawn ink (part x0 y0 x1 y1 s) p → ((x y : ℕ) → In x0 y0 x1 y1 x y → s x y ≡ t x y)
      → q ≡ drawn ink (part x0 y0 x1 y1 t) p
  part_ext t x0 y0 x1 y1 e f = e ∙ drawn-ext ink (part x0 y0 x1 y1 s) (part x0 y0 x1 y1 t) p (λ x y i j. at x y (box x0 y0 x1 y1 x y) refl)
    where
      at : (x y : ℕ) (b : Bool) → box x0 y0 x1 y1 x y ≡ b → (b && s x y) ≡ (b && t x y)
      at x y false h = refl
      at x y true h = f x y (in-box x0 y0 x1 y1 x y h)

-- two parts in turn are one, where no dot lies in both boxes and the third box has the dots of the two
module _ (ink : Ink) (s : ℕ → ℕ → Bool) (p q r : List ℕ) where
  then-part : (x0 y0 x1 y1 u0 v0 u1 v1 s0 t0 s1 t1 : ℕ) → ((x y : ℕ) → In x0 y0 x1 y1 x y → In s0 t0 s1 t1 x y)
      → ((x y : ℕ) → In u0 v0 u1 v1 x y → In s0 t0 s1 t1 x y) → ((x y : ℕ) → In s0 t0 s1 t1 x y → In x0 y0 x1 y1 x y ⊎ In u0 v0 u1 v1 x y)
      → ((x y : ℕ) → In x0 y0 x1 y1 x y → In u0 v0 u1 v1 x y → ⊥) → q ≡ drawn ink (part x0 y0 x1 y1 s) p → r ≡ drawn ink (part u0 v0 u1 v1 s) q
      → r ≡ drawn ink (part s0 t0 s1 t1 s) p
  then-part x0 y0 x1 y1 u0 v0 u1 v1 s0 t0 s1 t1 f g h n e d =
      d ∙ ap (drawn ink (part u0 v0 u1 v1 s)) e ∙ drawn-join ink _ _ _ p (λ x y.
      seen (box x0 y0 x1 y1 x y) (box u0 v0 u1 v1 x y) (box s0 t0 s1 t1 x y) (s x y) (join-test _ _ _
      (λ k. box_in s0 t0 s1 t1 x y (f x y (in-box x0 y0 x1 y1 x y k)))
      (λ k. box_in s0 t0 s1 t1 x y (g x y (in-box u0 v0 u1 v1 x y k)))
      (λ k. ⊎_elim (λ (w : In x0 y0 x1 y1 x y). inl (box_in x0 y0 x1 y1 x y w)) (λ (w : In u0 v0 u1 v1 x y). inr (box_in u0 v0 u1 v1 x y w))
      (h x y (in-box s0 t0 s1 t1 x y k)))
      (λ k l. n x y (in-box x0 y0 x1 y1 x y k) (in-box u0 v0 u1 v1 x y l))))
    where
      seen : (a b c t : Bool) → (c ≡ (a || b)) × ((a && b) ≡ false) → ((c && t) ≡ ((a && t) || (b && t))) × (((a && t) && (b && t)) ≡ false)
      seen true b c t (i, j) = rw (i, j) (sym (or-false t), and-false t)
      seen false b c t (i, j) = (ap (λ (z : Bool). z && t) i, refl)

  pub then-beside : (x0 x1 x2 y0 y1 : ℕ) → x0 ≤ x1 → x1 ≤ x2 → q ≡ drawn ink (part x0 y0 x1 y1 s) p → r ≡ drawn ink (part x1 y0 x2 y1 s) q
      → r ≡ drawn ink (part x0 y0 x2 y1 s) p
  then-beside x0 x1 x2 y0 y1 h k =
      then-part x0 y0 x1 y1 x1 y0 x2 y1 x0 y0 x2 y1 (λ x y w. omega arith) (λ x y w. omega arith) (λ x y w. split x y w (dec_lt x x1)) (λ x y w v. omega arith)
    where
      split : (x y : ℕ) → In x0 y0 x2 y1 x y → Dec (x < x1) → In x0 y0 x1 y1 x y ⊎ In x1 y0 x2 y1 x y
      split x y w (yes t) = inl (omega arith)
      split x y w (no t) = inr (omega arith)

  pub then-below : (x0 x1 y0 y1 y2 : ℕ) → y0 ≤ y1 → y1 ≤ y2 → q ≡ drawn ink (part x0 y0 x1 y1 s) p → r ≡ drawn ink (part x0 y1 x1 y2 s) q
      → r ≡ drawn ink (part x0 y0 x1 y2 s) p
  then-below x0 x1 y0 y1 y2 h k =
      then-part x0 y0 x1 y1 x0 y1 x1 y2 x0 y0 x1 y2 (λ x y w. omega arith) (λ x y w. omega arith) (λ x y w. split x y w (dec_lt y y1)) (λ x y w v. omega arith)
    where
      split : (x y : ℕ) → In x0 y0 x1 y2 x y → Dec (y < y1) → In x0 y0 x1 y1 x y ⊎ In x0 y1 x1 y2 x y
      split x y w (yes t) = inl (omega arith)
      split x y w (no t) = inr (omega arith)
