-- Figures that stand turned on a page: where a dot of the page lies in the figure, a box of a figure as a box of the page, figures drawn in turn,
-- and each turn as the one before turned once more.
-- Assumes nothing.
use mathlib.Core.Path.{◌≡◌, refl, sym, ap, ◌∙◌}
use mathlib.Core.Bool.{Bool, true, false, ◌&&◌, ◌||◌, and-false}
use mathlib.Core.List.{List}
use Prim.Native.Nat.{ℕ, zero, suc, ◌+◌, ◌-◌, ◌%◌, ◌≤◌, ◌<◌, min}
use native.Mathlib.Omega.{arith}
use lib.Dec.{leb, ltb}
use lib.ListN.{length}
use borrow.Author.Tests.{leb-true, ltb-true, le-leb, lt-ltb}
use Rattle.dots.specs.declared.Ink.{Ink}
use Rattle.dots.specs.Dots.{drawn, box, cut}
use Rattle.dots.proofs.Pages.{Bytes, drawn-join}
use Rattle.dots.proofs.Shapes.{same-box, in-box, box_in, cut-ext, cut_off}
use Rattle.ground.proofs.Tests.{and-true}
use Rattle.figures.specs.Figures.{quarter, turned_by, placed}

-- ---- where a dot of the page lies in a figure
-- the dot (a, b) of the page shows dot (u, v) of the figure, where `seen` is true
pub record Spot (shape : (ℕ → ℕ → Bool) → Bool) (w h : ℕ) : Type 0 where
  pub seen : Bool
  pub u : ℕ
  pub v : ℕ
  pub shows : (f : ℕ → ℕ → Bool) → shape f ≡ (seen && f u v)
  pub inside : seen ≡ true → (u < w) × (v < h)

spot-by : (r w h x y a b : ℕ) → Spot (λ f. turned_by r w h x y f a b) w h
spot-by zero w h x y a b = record {
  seen = (leb x a && leb y b) && (ltb (a - x) w && ltb (b - y) h);
  u = a - x;
  v = b - y;
  shows = λ f. refl;
  inside = λ e.
      let k = and-true (leb x a && leb y b) (ltb (a - x) w && ltb (b - y) h) e in
      let i = and-true (ltb (a - x) w) (ltb (b - y) h) k.1 in (ltb-true (a - x) w i.0, ltb-true (b - y) h i.1);
}
spot-by (suc r) w h x y a b =
    let s = spot-by r h w x y a b in
    record { seen = s.seen; u = s.v; v = h - 1 - s.u; shows = λ f. s.shows (quarter h f); inside = λ e. let i = s.inside e in (i.1, omega (arith, i.0)) }

pub spot : (r w h x y a b : ℕ) → Spot (λ f. placed r w h x y f a b) w h
spot r w h x y a b = spot-by (r % 4) w h x y a b

pub guarded : (s a b : Bool) → (s ≡ true → a ≡ b) → (s && a) ≡ (s && b)
guarded true a b e = e refl
guarded false a b e = refl

-- figures that agree in the box
pub placed-ext : (r w h x y : ℕ) (f g : ℕ → ℕ → Bool) → ((u v : ℕ) → u < w → v < h → f u v ≡ g u v) → (a b : ℕ)
    → placed r w h x y f a b ≡ placed r w h x y g a b
placed-ext r w h x y f g e a b =
    let s = spot r w h x y a b in
    s.shows f ∙ guarded s.seen (f s.u s.v) (g s.u s.v) (λ i. e s.u s.v (s.inside i).0 (s.inside i).1) ∙ sym (s.shows g)

-- a figure with no dot in the box
pub placed-none : (r w h x y : ℕ) (f : ℕ → ℕ → Bool) → ((u v : ℕ) → u < w → v < h → f u v ≡ false) → (a b : ℕ) → placed r w h x y f a b ≡ false
placed-none r w h x y f e a b =
    let s = spot r w h x y a b in
    s.shows f ∙ guarded s.seen (f s.u s.v) false (λ i. e s.u s.v (s.inside i).0 (s.inside i).1) ∙ and-false s.seen

-- two figures together
pub placed-or : (r w h x y : ℕ) (f g : ℕ → ℕ → Bool) (a b : ℕ)
    → placed r w h x y (λ u v. f u v || g u v) a b ≡ (placed r w h x y f a b || placed r w h x y g a b)
placed-or r w h x y f g a b =
    let s = spot r w h x y a b in
    s.shows (λ u v. f u v || g u v) ∙ either s.seen (f s.u s.v) (g s.u s.v) ∙ (λ i. sym (s.shows f) i || sym (s.shows g) i)
  where
    either : (s a b : Bool) → (s && (a || b)) ≡ ((s && a) || (s && b))
    either true a b = refl
    either false a b = refl

-- two figures that do not meet are one figure
abbrev pub Joins : Bool → Bool → Bool → Type 0
Joins a b c = (c ≡ (a || b)) × ((a && b) ≡ false)

pub guard : (s a b c : Bool) → (s ≡ true → Joins a b c) → Joins (s && a) (s && b) (s && c)
guard true a b c j = j refl
guard false a b c j = (refl, refl)

placed-joins : (r w h x y : ℕ) (f g k : ℕ → ℕ → Bool) → ((u v : ℕ) → u < w → v < h → Joins (f u v) (g u v) (k u v))
    → (a b : ℕ) → Joins (placed r w h x y f a b) (placed r w h x y g a b) (placed r w h x y k a b)
placed-joins r w h x y f g k j a b =
    let s = spot r w h x y a b in
    let i = guard s.seen (f s.u s.v) (g s.u s.v) (k s.u s.v) (λ e. j s.u s.v (s.inside e).0 (s.inside e).1) in
    (s.shows k ∙ i.0 ∙ (λ d. sym (s.shows f) d || sym (s.shows g) d), (λ d. s.shows f d && s.shows g d) ∙ i.1)

-- figures that do not meet, drawn in turn, are one figure drawn
pub then-placed : (ink : Ink) (W L r w h x y : ℕ) (f g k : ℕ → ℕ → Bool) (p q t : List ℕ)
    → q ≡ drawn ink (cut W L (placed r w h x y f)) p → t ≡ drawn ink (cut W L (placed r w h x y g)) q
    → ((u v : ℕ) → u < w → v < h → Joins (f u v) (g u v) (k u v)) → t ≡ drawn ink (cut W L (placed r w h x y k)) p
then-placed ink W L r w h x y f g k p q t e d j =
    d ∙ ap (drawn ink (cut W L (placed r w h x y g))) e
    ∙ drawn-join ink (cut W L (placed r w h x y f)) (cut W L (placed r w h x y g)) (cut W L (placed r w h x y k)) p
    (λ a b. guard (ltb a W && ltb b L) _ _ _ (λ i. placed-joins r w h x y f g k j a b))

-- a drawing of one figure is a drawing of another that agrees with it in the box
pub as-placed : (ink : Ink) (W L r w h x y : ℕ) (f g : ℕ → ℕ → Bool) (p q : List ℕ) → q ≡ drawn ink (cut W L (placed r w h x y f)) p
    → ((u v : ℕ) → u < w → v < h → f u v ≡ g u v) → q ≡ drawn ink (cut W L (placed r w h x y g)) p
as-placed ink W L r w h x y f g p q d e = d ∙ cut-ext ink W L _ _ p (λ a b i j k m. placed-ext r w h x y f g e a b)

-- a figure with no dot in the box draws nothing
pub none-placed : (ink : Ink) (W L r w h x y : ℕ) (f : ℕ → ℕ → Bool) (p : List ℕ) → Bytes p → ((u v : ℕ) → u < w → v < h → f u v ≡ false)
    → p ≡ drawn ink (cut W L (placed r w h x y f)) p
none-placed ink W L r w h x y f p by e = sym (cut_off ink W L (placed r w h x y f) p by (λ a b i j k m. placed-none r w h x y f e a b))

-- ---- a box of a figure is a box of the page
module _ (x y w h u0 v0 u1 v1 a b : ℕ) where
  -- what is known of a dot that is seen, and what shows that it is
  seen-in : (w h : ℕ) (f : Bool) → (((leb x a && leb y b) && (ltb (a - x) w && ltb (b - y) h)) && f) ≡ true
      → (x ≤ a) × (y ≤ b) × (a - x < w) × (b - y < h) × (f ≡ true)
  seen-in w h f e =
      let i = and-true ((leb x a && leb y b) && (ltb (a - x) w && ltb (b - y) h)) f e in
      let j = and-true (leb x a && leb y b) (ltb (a - x) w && ltb (b - y) h) i.0 in
      let k = and-true (leb x a) (leb y b) j.0 in
      let l = and-true (ltb (a - x) w) (ltb (b - y) h) j.1 in
      (leb-true x a k.0, leb-true y b k.1, ltb-true (a - x) w l.0, ltb-true (b - y) h l.1, i.1)

  in-seen : (w h : ℕ) (f : Bool) → x ≤ a → y ≤ b → a - x < w → b - y < h → f ≡ true
      → (((leb x a && leb y b) && (ltb (a - x) w && ltb (b - y) h)) && f) ≡ true
  in-seen w h f i j k l e = rw (le-leb x a i, le-leb y b j, lt-ltb (a - x) w k, lt-ltb (b - y) h l, e)

  pub upright-box : turned_by 0 w h x y (box u0 v0 u1 v1) a b ≡ box (x + u0) (y + v0) (x + min u1 w) (y + min v1 h) a b
  upright-box =
      same-box (x + u0) (y + v0) (x + min u1 w) (y + min v1 h) a b (turned_by 0 w h x y (box u0 v0 u1 v1) a b)
      (λ e. let s = seen-in w h (box u0 v0 u1 v1 (a - x) (b - y)) e in let i = in-box u0 v0 u1 v1 (a - x) (b - y) s.4 in omega arith)
      (λ i. in-seen w h _ (omega arith) (omega arith) (omega arith) (omega arith) (box_in u0 v0 u1 v1 (a - x) (b - y) (omega arith)))

  pub once-box : turned_by 1 w h x y (box u0 v0 u1 v1) a b ≡ box (x + (h - min v1 h)) (y + u0) (x + (h - v0)) (y + min u1 w) a b
  once-box =
      same-box (x + (h - min v1 h)) (y + u0) (x + (h - v0)) (y + min u1 w) a b (turned_by 1 w h x y (box u0 v0 u1 v1) a b)
      (λ e. let s = seen-in h w (box u0 v0 u1 v1 (b - y) (h - 1 - (a - x))) e in
      let i = in-box u0 v0 u1 v1 (b - y) (h - 1 - (a - x)) s.4 in omega arith)
      (λ i. in-seen h w _ (omega arith) (omega arith) (omega arith) (omega arith) (box_in u0 v0 u1 v1 (b - y) (h - 1 - (a - x)) (omega arith)))

  pub twice-box : turned_by 2 w h x y (box u0 v0 u1 v1) a b
      ≡ box (x + (w - min u1 w)) (y + (h - min v1 h)) (x + (w - u0)) (y + (h - v0)) a b
  twice-box =
      same-box (x + (w - min u1 w)) (y + (h - min v1 h)) (x + (w - u0)) (y + (h - v0)) a b (turned_by 2 w h x y (box u0 v0 u1 v1) a b)
      (λ e. let s = seen-in w h (box u0 v0 u1 v1 (w - 1 - (a - x)) (h - 1 - (b - y))) e in
      let i = in-box u0 v0 u1 v1 (w - 1 - (a - x)) (h - 1 - (b - y)) s.4 in omega arith)
      (λ i. in-seen w h _ (omega arith) (omega arith) (omega arith) (omega arith)
      (box_in u0 v0 u1 v1 (w - 1 - (a - x)) (h - 1 - (b - y)) (omega arith)))

  pub thrice-box : turned_by 3 w h x y (box u0 v0 u1 v1) a b ≡ box (x + v0) (y + (w - min u1 w)) (x + min v1 h) (y + (w - u0)) a b
  thrice-box =
      same-box (x + v0) (y + (w - min u1 w)) (x + min v1 h) (y + (w - u0)) a b (turned_by 3 w h x y (box u0 v0 u1 v1) a b)
      (λ e. let s = seen-in h w (box u0 v0 u1 v1 (w - 1 - (b - y)) (h - 1 - (h - 1 - (a - x)))) e in
      let i = in-box u0 v0 u1 v1 (w - 1 - (b - y)) (h - 1 - (h - 1 - (a - x))) s.4 in omega arith)
      (λ i. in-seen h w _ (omega arith) (omega arith) (omega arith) (omega arith)
      (box_in u0 v0 u1 v1 (w - 1 - (b - y)) (h - 1 - (h - 1 - (a - x))) (omega arith)))

-- a box whose corners are capped has the same dots on a page
pub capped-box : (ink : Ink) (W L x0 y0 x1 y1 s0 t0 s1 t1 : ℕ) (p q : List ℕ) → length p < 18446744073709551616
    → q ≡ drawn ink (cut W L (box s0 t0 s1 t1)) p → s0 ≡ min 18446744073709551615 x0 → t0 ≡ min 18446744073709551615 y0
    → s1 ≡ min 18446744073709551615 x1 → t1 ≡ min 18446744073709551615 y1 → q ≡ drawn ink (cut W L (box x0 y0 x1 y1)) p
capped-box ink W L x0 y0 x1 y1 s0 t0 s1 t1 p q n d e0 f0 e1 f1 =
    d ∙ cut-ext ink W L (box s0 t0 s1 t1) (box x0 y0 x1 y1) p (λ a b i j k m. same-box x0 y0 x1 y1 a b (box s0 t0 s1 t1 a b)
    (λ e. let z = in-box s0 t0 s1 t1 a b e in omega arith) (λ z. box_in s0 t0 s1 t1 a b (omega arith)))

-- a box of the page that is drawn is the figure's own, turned
pub as-part : (ink : Ink) (W L r w h x y u0 v0 u1 v1 x0 y0 x1 y1 n : ℕ) (p q : List ℕ) → q ≡ drawn ink (cut W L (box x0 y0 x1 y1)) p → r % 4 ≡ n
    → ((a b : ℕ) → turned_by n w h x y (box u0 v0 u1 v1) a b ≡ box x0 y0 x1 y1 a b) → q ≡ drawn ink (cut W L (placed r w h x y (box u0 v0 u1 v1))) p
as-part ink W L r w h x y u0 v0 u1 v1 x0 y0 x1 y1 n p q d e t =
    d ∙ cut-ext ink W L (box x0 y0 x1 y1) (turned_by n w h x y (box u0 v0 u1 v1)) p (λ a b i j k m. sym (t a b))
    ∙ ap (λ (m : ℕ). drawn ink (cut W L (turned_by m w h x y (box u0 v0 u1 v1))) p) (sym e)

-- what `ink_part` draws in each turn, with the numbers that it computes
module _ (ink : Ink) (W L r x y w h u0 v0 u1 v1 u2 v2 left right top bottom : ℕ) (p q : List ℕ) (eu : u2 ≡ min u1 w) (ev : v2 ≡ min v1 h)
    (el : left ≡ w - u2) (er : right ≡ w - u0) (et : top ≡ h - v2) (eb : bottom ≡ h - v0) where
  at_left : left ≡ w - min u1 w
  at_left = el ∙ ap (λ (n : ℕ). w - n) eu

  at_top : top ≡ h - min v1 h
  at_top = et ∙ ap (λ (n : ℕ). h - n) ev

  pub part-upright : r % 4 ≡ 0 → q ≡ drawn ink (cut W L (box (x + u0) (y + v0) (x + u2) (y + v2))) p
      → q ≡ drawn ink (cut W L (placed r w h x y (box u0 v0 u1 v1))) p
  part-upright e d =
      as-part ink W L r w h x y u0 v0 u1 v1 _ _ _ _ 0 p q d e
      (λ a b. upright-box x y w h u0 v0 u1 v1 a b ∙ (λ i. box (x + u0) (y + v0) (x + sym eu i) (y + sym ev i) a b))

  pub part-once : r % 4 ≡ 1 → q ≡ drawn ink (cut W L (box (x + top) (y + u0) (x + bottom) (y + u2))) p
      → q ≡ drawn ink (cut W L (placed r w h x y (box u0 v0 u1 v1))) p
  part-once e d =
      as-part ink W L r w h x y u0 v0 u1 v1 _ _ _ _ 1 p q d e
      (λ a b. once-box x y w h u0 v0 u1 v1 a b ∙ (λ i. box (x + sym at_top i) (y + u0) (x + sym eb i) (y + sym eu i) a b))

  pub part-twice : r % 4 ≡ 2 → q ≡ drawn ink (cut W L (box (x + left) (y + top) (x + right) (y + bottom))) p
      → q ≡ drawn ink (cut W L (placed r w h x y (box u0 v0 u1 v1))) p
  part-twice e d =
      as-part ink W L r w h x y u0 v0 u1 v1 _ _ _ _ 2 p q d e
      (λ a b. twice-box x y w h u0 v0 u1 v1 a b ∙ (λ i. box (x + sym at_left i) (y + sym at_top i) (x + sym er i) (y + sym eb i) a b))

  pub part-thrice : r % 4 ≡ 3 → q ≡ drawn ink (cut W L (box (x + v0) (y + left) (x + v2) (y + right))) p
      → q ≡ drawn ink (cut W L (placed r w h x y (box u0 v0 u1 v1))) p
  part-thrice e d =
      as-part ink W L r w h x y u0 v0 u1 v1 _ _ _ _ 3 p q d e
      (λ a b. thrice-box x y w h u0 v0 u1 v1 a b ∙ (λ i. box (x + v0) (y + sym at_left i) (x + sym ev i) (y + sym er i) a b))
