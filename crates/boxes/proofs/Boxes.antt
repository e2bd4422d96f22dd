-- Boxes drawn: the dots of one byte as a box, boxes that are one box together, and boxes with the same dots of the page.
-- Assumes nothing.
use mathlib.Core.Path.{◌≡◌, sym, ◌∙◌}
use mathlib.Core.Bool.{true, false, ◌&&◌, ◌||◌}
use mathlib.Core.Logic.{◌⊎◌, inl, inr}
use mathlib.Core.List.{List}
use Prim.Native.Nat.{ℕ, ◌+◌, ◌*◌, ◌/◌, ◌%◌, ◌≤◌, ◌<◌, min}
use native.Mathlib.Omega.{arith}
use native.Mathlib.Decide.{dec_lt}
use lib.Dec.{leb, ltb}
use borrow.Author.Tests.{leb-true, ltb-true, le-leb, lt-ltb}
use Rattle.ground.proofs.Tests.{and-true}
use Rattle.dots.specs.declared.Ink.{Ink}
use Rattle.dots.specs.Dots.{within, box, cut, drawn, rows}
use Rattle.dots.proofs.Pages.{Bytes, drawn-join, drawn-off, drawn-ext}
use Rattle.dots.proofs.Shapes.{In, in-box, box_in, not-in-box, same-box, join-test, cut-box}

-- the dots of one byte, lo up to hi of byte i of row y, as a rectangle: within the byte, and in any other
module _ (y i lo hi : ℕ) (hi-le : hi ≤ 8) (i_lt : i < 76) where
  pub in-byte : (k : ℕ) → k < 8 → within lo hi k ≡ box (i * 8 + lo) y (i * 8 + hi) (y + 1) ((y * 76 + i) % 76 * 8 + k) ((y * 76 + i) / 76)
  in-byte k t =
      same-box (i * 8 + lo) y (i * 8 + hi) (y + 1) ((y * 76 + i) % 76 * 8 + k) ((y * 76 + i) / 76) (within lo hi k)
      (λ e. let h = and-true (leb lo k) (ltb k hi) e in omega (arith, leb-true lo k h.0, ltb-true k hi h.1))
      (λ h. rw (le-leb lo k (omega arith), lt-ltb k hi (omega arith)))

  pub out-of-byte : (j k : ℕ) → (j ≡ y * 76 + i → ⊥) → k < 8 → box (i * 8 + lo) y (i * 8 + hi) (y + 1) (j % 76 * 8 + k) (j / 76) ≡ false
  out-of-byte j k n t = not-in-box (i * 8 + lo) y (i * 8 + hi) (y + 1) (j % 76 * 8 + k) (j / 76) (λ h. n (omega arith))

-- two rectangles side by side are one, and so are two of which one is below the other
pub beside : (ink : Ink) (x0 x1 x2 y0 y1 : ℕ) (p : List ℕ) → x0 ≤ x1 → x1 ≤ x2
    → drawn ink (box x1 y0 x2 y1) (drawn ink (box x0 y0 x1 y1) p) ≡ drawn ink (box x0 y0 x2 y1) p
beside ink x0 x1 x2 y0 y1 p h k = drawn-join ink (box x0 y0 x1 y1) (box x1 y0 x2 y1) (box x0 y0 x2 y1) p at
  where
    split : (x y : ℕ) → In x0 y0 x2 y1 x y → Dec (x < x1) → (box x0 y0 x1 y1 x y ≡ true) ⊎ (box x1 y0 x2 y1 x y ≡ true)
    split x y w (yes t) = inl (box_in x0 y0 x1 y1 x y (omega arith))
    split x y w (no t) = inr (box_in x1 y0 x2 y1 x y (omega arith))

    at : (x y : ℕ) → (box x0 y0 x2 y1 x y ≡ (box x0 y0 x1 y1 x y || box x1 y0 x2 y1 x y)) × ((box x0 y0 x1 y1 x y && box x1 y0 x2 y1 x y) ≡ false)
    at x y =
        join-test (box x0 y0 x1 y1 x y) (box x1 y0 x2 y1 x y) (box x0 y0 x2 y1 x y)
        (λ e. let w = in-box x0 y0 x1 y1 x y e in box_in x0 y0 x2 y1 x y (omega arith))
        (λ e. let w = in-box x1 y0 x2 y1 x y e in box_in x0 y0 x2 y1 x y (omega arith))
        (λ e. split x y (in-box x0 y0 x2 y1 x y e) (dec_lt x x1))
        (λ e f. let w = in-box x0 y0 x1 y1 x y e in let v = in-box x1 y0 x2 y1 x y f in omega arith)

pub below : (ink : Ink) (x0 x1 y0 y1 y2 : ℕ) (p : List ℕ) → y0 ≤ y1 → y1 ≤ y2
    → drawn ink (box x0 y1 x1 y2) (drawn ink (box x0 y0 x1 y1) p) ≡ drawn ink (box x0 y0 x1 y2) p
below ink x0 x1 y0 y1 y2 p h k = drawn-join ink (box x0 y0 x1 y1) (box x0 y1 x1 y2) (box x0 y0 x1 y2) p at
  where
    split : (x y : ℕ) → In x0 y0 x1 y2 x y → Dec (y < y1) → (box x0 y0 x1 y1 x y ≡ true) ⊎ (box x0 y1 x1 y2 x y ≡ true)
    split x y w (yes t) = inl (box_in x0 y0 x1 y1 x y (omega arith))
    split x y w (no t) = inr (box_in x0 y1 x1 y2 x y (omega arith))

    at : (x y : ℕ) → (box x0 y0 x1 y2 x y ≡ (box x0 y0 x1 y1 x y || box x0 y1 x1 y2 x y)) × ((box x0 y0 x1 y1 x y && box x0 y1 x1 y2 x y) ≡ false)
    at x y =
        join-test (box x0 y0 x1 y1 x y) (box x0 y1 x1 y2 x y) (box x0 y0 x1 y2 x y)
        (λ e. let w = in-box x0 y0 x1 y1 x y e in box_in x0 y0 x1 y2 x y (omega arith))
        (λ e. let w = in-box x0 y1 x1 y2 x y e in box_in x0 y0 x1 y2 x y (omega arith))
        (λ e. split x y (in-box x0 y0 x1 y2 x y e) (dec_lt y y1))
        (λ e f. let w = in-box x0 y0 x1 y1 x y e in let v = in-box x0 y1 x1 y2 x y f in omega arith)

-- a rectangle with no dot on the page, and two that the page cuts to the same
pub box-none : (ink : Ink) (x0 y0 x1 y1 : ℕ) (p : List ℕ) → Bytes p → ((x y : ℕ) → x < 608 → y < rows p → In x0 y0 x1 y1 x y → ⊥)
    → p ≡ drawn ink (box x0 y0 x1 y1) p
box-none ink x0 y0 x1 y1 p by n = sym (drawn-off ink (box x0 y0 x1 y1) p by (λ x y s t. not-in-box x0 y0 x1 y1 x y (n x y s t)))

-- the same, as a step from a page p over q to r, where the code's numbers may be written another way
pub then-beside : (ink : Ink) (x0 x1 m x2 z y0 y1 : ℕ) (p q r : List ℕ) → q ≡ drawn ink (box x0 y0 x1 y1) p → r ≡ drawn ink (box m y0 x2 y1) q
    → m ≡ x1 → z ≡ x2 → x0 ≤ x1 → x1 ≤ x2 → r ≡ drawn ink (box x0 y0 z y1) p
then-beside ink x0 x1 m x2 z y0 y1 p q r e f g h s t = f ∙ rw (e, g, h) (beside ink x0 x1 x2 y0 y1 p s t)

pub then-below : (ink : Ink) (x0 x1 y0 y1 m y2 z : ℕ) (p q r : List ℕ) → q ≡ drawn ink (box x0 y0 x1 y1) p → r ≡ drawn ink (box x0 m x1 y2) q
    → m ≡ y1 → z ≡ y2 → y0 ≤ y1 → y1 ≤ y2 → r ≡ drawn ink (box x0 y0 x1 z) p
then-below ink x0 x1 y0 y1 m y2 z p q r e f g h s t = f ∙ rw (e, g, h) (below ink x0 x1 y0 y1 y2 p s t)

-- a drawing of one rectangle is a drawing of another that has the same dots of the page
pub as-box : (ink : Ink) (x0 y0 x1 y1 u0 v0 u1 v1 : ℕ) (p q : List ℕ) → q ≡ drawn ink (box x0 y0 x1 y1) p
    → ((x y : ℕ) → x < 608 → y < rows p → In x0 y0 x1 y1 x y → In u0 v0 u1 v1 x y)
    → ((x y : ℕ) → x < 608 → y < rows p → In u0 v0 u1 v1 x y → In x0 y0 x1 y1 x y)
    → q ≡ drawn ink (box u0 v0 u1 v1) p
as-box ink x0 y0 x1 y1 u0 v0 u1 v1 p q e f g =
    e ∙ drawn-ext ink (box x0 y0 x1 y1) (box u0 v0 u1 v1) p
    (λ x y s t. same-box u0 v0 u1 v1 x y (box x0 y0 x1 y1 x y)
    (λ b. f x y s t (in-box x0 y0 x1 y1 x y b)) (λ b. box_in x0 y0 x1 y1 x y (g x y s t b)))

-- a drawing of a rectangle is a drawing of one that is cut, if the page has the same dots of both
pub as-cut-box : (ink : Ink) (w l x0 y0 x1 y1 u0 v0 u1 v1 : ℕ) (p q : List ℕ) → q ≡ drawn ink (box x0 y0 x1 y1) p
    → ((x y : ℕ) → x < 608 → y < rows p → In x0 y0 x1 y1 x y → In u0 v0 (min u1 w) (min v1 l) x y)
    → ((x y : ℕ) → x < 608 → y < rows p → In u0 v0 (min u1 w) (min v1 l) x y → In x0 y0 x1 y1 x y)
    → q ≡ drawn ink (cut w l (box u0 v0 u1 v1)) p
as-cut-box ink w l x0 y0 x1 y1 u0 v0 u1 v1 p q e f g =
    as-box ink x0 y0 x1 y1 u0 v0 (min u1 w) (min v1 l) p q e f g
    ∙ drawn-ext ink (box u0 v0 (min u1 w) (min v1 l)) (cut w l (box u0 v0 u1 v1)) p (λ x y s t. sym (cut-box w l u0 v0 u1 v1 x y))

pub cut-box-none : (ink : Ink) (w l x0 y0 x1 y1 : ℕ) (p : List ℕ) → Bytes p
    → ((x y : ℕ) → x < 608 → y < rows p → In x0 y0 (min x1 w) (min y1 l) x y → ⊥)
    → p ≡ drawn ink (cut w l (box x0 y0 x1 y1)) p
cut-box-none ink w l x0 y0 x1 y1 p by n =
    box-none ink x0 y0 (min x1 w) (min y1 l) p by n
    ∙ drawn-ext ink (box x0 y0 (min x1 w) (min y1 l)) (cut w l (box x0 y0 x1 y1)) p (λ x y s t. sym (cut-box w l x0 y0 x1 y1 x y))
