-- Tests on dots: what a rectangle's test says, and rectangles that are one rectangle together.
-- Assumes nothing.
use mathlib.Core.Path.{◌≡◌, refl, sym, ap, ◌∙◌}
use mathlib.Core.Bool.{Bool, true, false, ◌&&◌, ◌||◌, and-false}
use Prim.Native.Nat.{ℕ, ◌≤◌, ◌<◌, min}
use native.Mathlib.Omega.{arith}
use mathlib.Core.Logic.{◌⊎◌, ⊎_elim}
use mathlib.Core.List.{List}
use Rattle.ground.proofs.Tests.{is_false, and-true}
use Rattle.dots.specs.declared.Ink.{Ink}
use Rattle.dots.specs.declared.Ink.TheVariants.{Black}
use Rattle.dots.proofs.Pages.{Bytes, drawn-off, drawn-ext, drawn-black}
use lib.Dec.{leb, ltb}
use borrow.Author.Tests.{leb-true, ltb-true, le-leb, lt-ltb}
use Rattle.dots.specs.Dots.{within, box, cut, drawn, rows}

-- two tests are equal where each follows from the other
pub same_test : (a b : Bool) → (a ≡ true → b ≡ true) → (b ≡ true → a ≡ true) → a ≡ b
same_test true b f g = sym (f refl)
same_test false true f g = g refl
same_test false false f g = refl

pub or-true : (a b : Bool) → (a ≡ true → ⊥) → (a || b) ≡ true → b ≡ true
or-true true b n e = absurd (n refl)
or-true false b n e = e

pub record In (x0 y0 x1 y1 x y : ℕ) : Type 0 where
  pub left : x0 ≤ x
  pub right : x < x1
  pub top : y0 ≤ y
  pub bottom : y < y1

pub in-box : (x0 y0 x1 y1 x y : ℕ) → box x0 y0 x1 y1 x y ≡ true → In x0 y0 x1 y1 x y
in-box x0 y0 x1 y1 x y e =
    let h = and-true (within x0 x1 x) (within y0 y1 y) e in
    let a = and-true (leb x0 x) (ltb x x1) h.0 in
    let b = and-true (leb y0 y) (ltb y y1) h.1 in
    record { left = leb-true x0 x a.0; right = ltb-true x x1 a.1; top = leb-true y0 y b.0; bottom = ltb-true y y1 b.1 }

pub box_in : (x0 y0 x1 y1 x y : ℕ) → In x0 y0 x1 y1 x y → box x0 y0 x1 y1 x y ≡ true
box_in x0 y0 x1 y1 x y h = rw (le-leb x0 x h.left, lt-ltb x x1 h.right, le-leb y0 y h.top, lt-ltb y y1 h.bottom)

pub not-in-box : (x0 y0 x1 y1 x y : ℕ) → (In x0 y0 x1 y1 x y → ⊥) → box x0 y0 x1 y1 x y ≡ false
not-in-box x0 y0 x1 y1 x y n = is_false (box x0 y0 x1 y1 x y) (λ e. n (in-box x0 y0 x1 y1 x y e))

-- two rectangles are equal at a dot where one has it just where the other has it
pub same-box : (x0 y0 x1 y1 x y : ℕ) (b : Bool) → (b ≡ true → In x0 y0 x1 y1 x y) → (In x0 y0 x1 y1 x y → b ≡ true) → b ≡ box x0 y0 x1 y1 x y
same-box x0 y0 x1 y1 x y b f g = same_test b (box x0 y0 x1 y1 x y) (λ e. box_in x0 y0 x1 y1 x y (f e)) (λ e. g (in-box x0 y0 x1 y1 x y e))

pub join-test : (a b c : Bool) → (a ≡ true → c ≡ true) → (b ≡ true → c ≡ true) → (c ≡ true → (a ≡ true) ⊎ (b ≡ true)) → (a ≡ true → b ≡ true → ⊥)
    → (c ≡ (a || b)) × ((a && b) ≡ false)
join-test true b c f g h n = (f refl, is_false b (n refl))
join-test false b c f g h n = (same_test c b (λ e. ⊎_elim (λ z. let w : ◌≡◌ {A = Bool} false true = z in cc) (λ z. z) (h e)) g, refl)

-- a rectangle cut at width and length is a rectangle
pub cut-box : (w l x0 y0 x1 y1 x y : ℕ) → cut w l (box x0 y0 x1 y1) x y ≡ box x0 y0 (min x1 w) (min y1 l) x y
cut-box w l x0 y0 x1 y1 x y =
    same-box x0 y0 (min x1 w) (min y1 l) x y (cut w l (box x0 y0 x1 y1) x y)
    (λ e. let h = and-true (ltb x w && ltb y l) (box x0 y0 x1 y1 x y) e in
    let k = and-true (ltb x w) (ltb y l) h.0 in
    let i = in-box x0 y0 x1 y1 x y h.1 in omega (arith, ltb-true x w k.0, ltb-true y l k.1))
    (λ i. rw (lt-ltb x w (omega arith), lt-ltb y l (omega arith), box_in x0 y0 x1 y1 x y (omega arith)))

-- ---- black shapes that are cut
cut_or : (s a b : Bool) → ((s && a) || (s && b)) ≡ (s && (a || b))
cut_or true a b = refl
cut_or false a b = refl

-- any two shapes, cut and drawn black in turn, are one
pub then-black : (w l : ℕ) (a b : ℕ → ℕ → Bool) (p q r : List ℕ) → q ≡ drawn Black (cut w l a) p → r ≡ drawn Black (cut w l b) q
    → r ≡ drawn Black (cut w l (λ x y. a x y || b x y)) p
then-black w l a b p q r e f =
    f ∙ ap (drawn Black (cut w l b)) e ∙ drawn-black (cut w l a) (cut w l b) p
    ∙ drawn-ext Black _ (cut w l (λ x y. a x y || b x y)) p (λ x y s t. cut_or (ltb x w && ltb y l) (a x y) (b x y))

pub cut-ext : (ink : Ink) (w l : ℕ) (a b : ℕ → ℕ → Bool) (p : List ℕ)
    → ((x y : ℕ) → x < w → y < l → x < 608 → y < rows p → a x y ≡ b x y) → drawn ink (cut w l a) p ≡ drawn ink (cut w l b) p
cut-ext ink w l a b p e =
    drawn-ext ink (cut w l a) (cut w l b) p
    (λ x y s t. guarded (ltb x w) (ltb y l) (a x y) (b x y) (λ h k. e x y (ltb-true x w h) (ltb-true y l k) s t))
  where
    guarded : (h k u v : Bool) → (h ≡ true → k ≡ true → u ≡ v) → ((h && k) && u) ≡ ((h && k) && v)
    guarded true true u v e = e refl refl
    guarded true false u v e = refl
    guarded false k u v e = refl

-- a shape whose every dot is cut off, or not on the page, draws nothing
pub cut_off : (ink : Ink) (w l : ℕ) (a : ℕ → ℕ → Bool) (p : List ℕ) → Bytes p
    → ((x y : ℕ) → x < w → y < l → x < 608 → y < rows p → a x y ≡ false) → drawn ink (cut w l a) p ≡ p
cut_off ink w l a p by e =
    cut-ext ink w l a (λ x y. false) p e ∙ drawn-off ink (cut w l (λ x y. false)) p by (λ x y s t. and-false (ltb x w && ltb y l))
