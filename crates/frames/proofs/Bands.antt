-- The four bands of a frame, drawn in turn, are the frame drawn.
-- Assumes nothing.
use mathlib.Core.Path.{◌≡◌, refl, sym, ◌∙◌}
use mathlib.Core.Bool.{Bool, true, false, not, ◌||◌}
use mathlib.Core.List.{List}
use Prim.Native.Nat.{ℕ, ◌+◌, ◌-◌, ◌≤◌, ◌<◌, min, max}
use native.Mathlib.Omega.{arith}
use native.Mathlib.Decide.{dec_lt}
use borrow.Author.Tests.{not-true}
use Rattle.ground.proofs.Tests.{and-true}
use Rattle.dots.specs.declared.Ink.TheVariants.{Black}
use Rattle.dots.specs.Dots.{box, cut, drawn}
use Rattle.dots.proofs.Shapes.{same_test, In, in-box, box_in, not-in-box, then-black, cut-ext}
use Rattle.frames.specs.Frame.{hollow}

-- the four bands of a frame
band-test : (o a b c d : Bool) → (a ≡ true → o ≡ true) → (b ≡ true → o ≡ true) → (c ≡ true → o ≡ true) → (d ≡ true → o ≡ true)
    → (o ≡ true → a ≡ false → b ≡ false → c ≡ false → d ≡ true) → (((a || b) || c) || d) ≡ o
band-test o true b c d f g h k all = sym (f refl)
band-test o false true c d f g h k all = sym (g refl)
band-test o false false true d f g h k all = sym (h refl)
band-test o false false false d f g h k all = same_test d o k (λ e. all e refl refl refl)

pub bands : (c x0 y0 x1 y1 top bottom left right : ℕ) → x0 ≤ x1 → y0 ≤ y1 → top ≡ min (y0 + c) y1 → bottom ≡ max (y1 - c) y0
    → left ≡ min (x0 + c) x1 → right ≡ max (x1 - c) x0 → (x y : ℕ)
    → (((box x0 y0 x1 top x y || box x0 bottom x1 y1 x y) || box x0 y0 left y1 x y) || box right y0 x1 y1 x y) ≡ hollow c x0 y0 x1 y1 x y
bands c x0 y0 x1 y1 top bottom left right hx hy et eb el er x y =
    band-test (hollow c x0 y0 x1 y1 x y) (box x0 y0 x1 top x y) (box x0 bottom x1 y1 x y) (box x0 y0 left y1 x y) (box right y0 x1 y1 x y)
    (λ e. let h = in-box x0 y0 x1 top x y e in side (omega arith) (λ i. omega arith))
    (λ e. let h = in-box x0 bottom x1 y1 x y e in side (omega arith) (λ i. omega arith))
    (λ e. let h = in-box x0 y0 left y1 x y e in side (omega arith) (λ i. omega arith))
    (λ e. let h = in-box right y0 x1 y1 x y e in side (omega arith) (λ i. omega arith))
    (λ e f g h. let k = and-true (box x0 y0 x1 y1 x y) _ e in let i = in-box x0 y0 x1 y1 x y k.0 in last i k.1 f g h (dec_lt x right))
  where
    inner : ℕ → ℕ → Type 0
    inner = In (x0 + c) (y0 + c) (x1 - c) (y1 - c)

    side : In x0 y0 x1 y1 x y → (In (x0 + c) (y0 + c) (x1 - c) (y1 - c) x y → ⊥) → hollow c x0 y0 x1 y1 x y ≡ true
    side h n = rw (box_in x0 y0 x1 y1 x y h, not-in-box (x0 + c) (y0 + c) (x1 - c) (y1 - c) x y n)

    differ : (b : Bool) → b ≡ true → b ≡ false → ⊥
    differ b e f = let z : ◌≡◌ {A = Bool} true false = sym e ∙ f in let w : ◌≡◌ {A = ℕ} 0 1 = cc in omega arith

    last : In x0 y0 x1 y1 x y → not (box (x0 + c) (y0 + c) (x1 - c) (y1 - c) x y) ≡ true → box x0 y0 x1 top x y ≡ false → box x0 bottom x1 y1 x y ≡ false
        → box x0 y0 left y1 x y ≡ false → Dec (x < right) → box right y0 x1 y1 x y ≡ true
    last i n f g h (no d) = box_in right y0 x1 y1 x y (omega arith)
    last i n f g h (yes d) = absurd (differ (box (x0 + c) (y0 + c) (x1 - c) (y1 - c) x y)
        (box_in (x0 + c) (y0 + c) (x1 - c) (y1 - c) x y
        (let a = above (dec_lt y top) in let b = beneath (dec_lt y bottom) in let l = beyond (dec_lt x left) in omega arith))
        (not-true _ n))
      where
        above : Dec (y < top) → top ≤ y
        above (no t) = omega arith
        above (yes t) = absurd (differ _ (box_in x0 y0 x1 top x y (omega arith)) f)

        beneath : Dec (y < bottom) → y < bottom
        beneath (yes t) = t
        beneath (no t) = absurd (differ _ (box_in x0 bottom x1 y1 x y (omega arith)) g)

        beyond : Dec (x < left) → left ≤ x
        beyond (no t) = omega arith
        beyond (yes t) = absurd (differ _ (box_in x0 y0 left y1 x y (omega arith)) h)

-- the bands drawn in turn are the frame drawn
pub bands-drawn : (w l c x0 y0 x1 y1 top bottom left right : ℕ) (p q r s t : List ℕ) → x0 ≤ x1 → y0 ≤ y1 → top ≡ min (y0 + c) y1
    → bottom ≡ max (y1 - c) y0 → left ≡ min (x0 + c) x1 → right ≡ max (x1 - c) x0 → q ≡ drawn Black (cut w l (box x0 y0 x1 top)) p
    → r ≡ drawn Black (cut w l (box x0 bottom x1 y1)) q → s ≡ drawn Black (cut w l (box x0 y0 left y1)) r
    → t ≡ drawn Black (cut w l (box right y0 x1 y1)) s → t ≡ drawn Black (cut w l (hollow c x0 y0 x1 y1)) p
bands-drawn w l c x0 y0 x1 y1 top bottom left right p q r s t hx hy et eb el er dq dr ds dt =
    then-black w l _ _ p s t (then-black w l _ _ p r s (then-black w l (box x0 y0 x1 top) (box x0 bottom x1 y1) p q r dq dr) ds) dt
    ∙ cut-ext Black w l _ (hollow c x0 y0 x1 y1) p (λ x y i j k m. bands c x0 y0 x1 y1 top bottom left right hx hy et eb el er x y)
