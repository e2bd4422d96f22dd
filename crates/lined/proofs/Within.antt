-- A figure with margins around it in a greater box: turned with the greater box, it is its own box turned, at a corner of its own.
-- Assumes nothing.
use mathlib.Core.Path.{◌≡◌, sym, ap, ◌∙◌}
use mathlib.Core.Bool.{Bool, true, ◌&&◌, and_assoc}
use mathlib.Core.List.{List}
use Prim.Native.Nat.{ℕ, zero, suc, ◌+◌, ◌-◌, ◌%◌, ◌≤◌, ◌<◌}
use native.Mathlib.Omega.{arith}
use lib.Dec.{leb, ltb}
use lib.ListN.{length}
use borrow.Author.Tests.{leb-true, ltb-true, le-leb, lt-ltb}
use Rattle.dots.specs.declared.Ink.TheVariants.{Black}
use Rattle.ground.specs.Numbers.{capped}
use Rattle.ground.proofs.Tests.{and-true}
use Rattle.dots.specs.Dots.{drawn, cut}
use Rattle.dots.proofs.Shapes.{same_test, cut-ext}
use Rattle.figures.specs.Figures.{quarter, standing, turned_by, placed}
use Rattle.figures.proofs.Placed.{guarded}
use Rattle.lined.specs.declared.insets.Margins.{Margins}
use Rattle.lined.specs.Insets.{brought, beside, above, inset}

-- ---- which dots of the page a box has
abbrev seen : ℕ → ℕ → ℕ → ℕ → ℕ → ℕ → Bool
seen w h x y a b = (leb x a && leb y b) && (ltb (a - x) w && ltb (b - y) h)

record Seen (w h x y a b : ℕ) : Type 0 where
  left : x ≤ a
  top : y ≤ b
  right : a - x < w
  bottom : b - y < h

seen-says : (w h x y a b : ℕ) → seen w h x y a b ≡ true → Seen w h x y a b
seen-says w h x y a b e =
    let s = and-true (leb x a && leb y b) (ltb (a - x) w && ltb (b - y) h) e in
    let i = and-true (leb x a) (leb y b) s.0 in
    let j = and-true (ltb (a - x) w) (ltb (b - y) h) s.1 in
    record { left = leb-true x a i.0; top = leb-true y b i.1; right = ltb-true (a - x) w j.0; bottom = ltb-true (b - y) h j.1 }

says-seen : (w h x y a b : ℕ) → Seen w h x y a b → seen w h x y a b ≡ true
says-seen w h x y a b s = rw (le-leb x a s.left, le-leb y b s.top, lt-ltb (a - x) w s.right, lt-ltb (b - y) h s.bottom)

-- two boxes that have the same dots of the page, and the same dot of a figure there
same-dot : (w h x y a b w' h' x' y' a' b' : ℕ) (f g : Bool) → (Seen w h x y a b → Seen w' h' x' y' a' b')
    → (Seen w' h' x' y' a' b' → Seen w h x y a b) → (Seen w h x y a b → f ≡ g)
    → (seen w h x y a b && f) ≡ (seen w' h' x' y' a' b' && g)
same-dot w h x y a b w' h' x' y' a' b' f g to from same =
    guarded (seen w h x y a b) f g (λ e. same (seen-says w h x y a b e))
    ∙ ap (λ (s : Bool). s && g)
    (same_test (seen w h x y a b) (seen w' h' x' y' a' b') (λ e. says-seen w' h' x' y' a' b' (to (seen-says w h x y a b e)))
    (λ e. says-seen w h x y a b (from (seen-says w' h' x' y' a' b' e))))

-- figures that agree in the box
turned-ext : (r w h x y : ℕ) (f g : ℕ → ℕ → Bool) → ((u v : ℕ) → u < w → v < h → f u v ≡ g u v) → (a b : ℕ)
    → turned_by r w h x y f a b ≡ turned_by r w h x y g a b
turned-ext zero w h x y f g e a b =
    guarded (seen w h x y a b) _ _ (λ s. let i = seen-says w h x y a b s in e (a - x) (b - y) i.right i.bottom)
turned-ext (suc r) w h x y f g e a b = turned-ext r h w x y (quarter h f) (quarter h g) (λ u v i j. e v (h - 1 - u) j (omega arith)) a b

-- ---- one turn brings the lower margin to the left
module _ (w h left top right bottom : ℕ) (f : ℕ → ℕ → Bool) where
  quarter-standing : (u v : ℕ) → u < top + h + bottom
      → quarter (top + h + bottom) (standing w h left top f) u v ≡ standing h w bottom left (quarter h f) u v
  quarter-standing u v k =
      same-dot w h left top v (top + h + bottom - 1 - u) h w bottom left u v _ _
      (λ s. record { left = omega arith; top = omega arith; right = omega arith; bottom = omega arith })
      (λ s. record { left = omega arith; top = omega arith; right = omega arith; bottom = omega arith })
      (λ s. ap (f (v - left)) (let e : top + h + bottom - 1 - u - top ≡ h - 1 - (u - bottom) = omega arith in e))

  standing-standing : (x y a b : ℕ)
      → standing (left + w + right) (top + h + bottom) x y (standing w h left top f) a b ≡ standing w h (x + left) (y + top) f a b
  standing-standing x y a b =
      sym (and_assoc (seen (left + w + right) (top + h + bottom) x y a b) (seen w h left top (a - x) (b - y)) _)
      ∙ (λ i. both i && f (across i) (down i))
    where
      across : a - x - left ≡ a - (x + left)
      across = omega arith

      down : b - y - top ≡ b - (y + top)
      down = omega arith

      outer : seen (left + w + right) (top + h + bottom) x y a b ≡ true → seen w h left top (a - x) (b - y) ≡ true → seen w h (x + left) (y + top) a b ≡ true
      outer e g =
          let i = seen-says (left + w + right) (top + h + bottom) x y a b e in
          let j = seen-says w h left top (a - x) (b - y) g in
          says-seen w h (x + left) (y + top) a b (record { left = omega arith; top = omega arith; right = omega arith; bottom = omega arith })

      inner : Seen w h (x + left) (y + top) a b
          → (seen (left + w + right) (top + h + bottom) x y a b && seen w h left top (a - x) (b - y)) ≡ true
      inner i =
          rw (says-seen (left + w + right) (top + h + bottom) x y a b (record { left = omega arith; top = omega arith; right = omega arith; bottom = omega arith }))
          (says-seen w h left top (a - x) (b - y) (record { left = omega arith; top = omega arith; right = omega arith; bottom = omega arith }))

      both : (seen (left + w + right) (top + h + bottom) x y a b && seen w h left top (a - x) (b - y)) ≡ seen w h (x + left) (y + top) a b
      both =
          same_test _ _ (λ e. let k = and-true (seen (left + w + right) (top + h + bottom) x y a b) (seen w h left top (a - x) (b - y)) e in outer k.0 k.1)
          (λ e. inner (seen-says w h (x + left) (y + top) a b e))

turned-inset : (r w h left top right bottom x y : ℕ) (f : ℕ → ℕ → Bool) (a b : ℕ)
    → turned_by r (left + w + right) (top + h + bottom) x y (standing w h left top f) a b
    ≡ turned_by r w h (x + brought r left bottom right top) (y + brought r top left bottom right) f a b
turned-inset zero w h left top right bottom x y f a b = standing-standing w h left top right bottom f x y a b
turned-inset (suc r) w h left top right bottom x y f a b =
    let e : top + h + bottom ≡ bottom + h + top = omega arith in
    turned-ext r (top + h + bottom) (left + w + right) x y (quarter (top + h + bottom) (standing w h left top f)) (standing h w bottom left (quarter h f))
    (λ u v i j. quarter-standing w h left top right bottom f u v i) a b
    ∙ ap (λ (n : ℕ). turned_by r n (left + w + right) x y (standing h w bottom left (quarter h f)) a b) e
    ∙ turned-inset r h w bottom left top right x y (quarter h f) a b

-- the box within, turned with the greater box, is turned by itself: its corner is what r turns bring to the left and to the top
pub placed-inset : (r : ℕ) (m : Margins) (w h x y : ℕ) (f : ℕ → ℕ → Bool) (a b : ℕ)
    → inset r m w h x y f a b ≡ placed r w h (x + beside r m) (y + above r m) f a b
unfolding inset
placed-inset r m w h x y f a b = turned-inset (r % 4) w h m.left m.top m.right m.bottom x y f a b

-- ---- a corner that is capped shows the same dots of a page
turned-capped : (r w h x y : ℕ) (f : ℕ → ℕ → Bool) (a b : ℕ) → a < 18446744073709551615 → b < 18446744073709551615
    → turned_by r w h (capped x) (capped y) f a b ≡ turned_by r w h x y f a b
turned-capped zero w h x y f a b i j =
    same-dot w h (capped x) (capped y) a b w h x y a b _ _
    (λ s. record { left = omega arith; top = omega arith; right = omega arith; bottom = omega arith })
    (λ s. record { left = omega arith; top = omega arith; right = omega arith; bottom = omega arith })
    (λ s. let e : a - capped x ≡ a - x = omega arith in let d : b - capped y ≡ b - y = omega arith in (λ k. f (e k) (d k)))
turned-capped (suc r) w h x y f a b i j = turned-capped r h w x y (quarter h f) a b i j

-- a figure drawn at its own corner is the figure drawn within the greater box
pub inset-drawn : (W L r : ℕ) (m : Margins) (w h x y a b : ℕ) (f : ℕ → ℕ → Bool) (p q : List ℕ) → length p < 18446744073709551616
    → a ≡ capped (x + beside r m) → b ≡ capped (y + above r m) → q ≡ drawn Black (cut W L (placed r w h a b f)) p
    → q ≡ drawn Black (cut W L (inset r m w h x y f)) p
inset-drawn W L r m w h x y a b f p q n ea eb d =
    d ∙ (λ i. drawn Black (cut W L (placed r w h (ea i) (eb i) f)) p)
    ∙ cut-ext Black W L _ (inset r m w h x y f) p
    (λ s t i j k l. turned-capped (r % 4) w h (x + beside r m) (y + above r m) f s t (omega arith) (omega arith) ∙ sym (placed-inset r m w h x y f s t))
