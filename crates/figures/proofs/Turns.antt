-- Turns: each is the one before turned once more, and four of them are none.
-- Assumes nothing.
use mathlib.Core.Path.{◌≡◌, sym, ap, ◌∙◌}
use mathlib.Core.Bool.{Bool, ◌&&◌}
use Prim.Native.Nat.{ℕ, zero, suc, ◌+◌, ◌-◌, ◌%◌, ◌<◌}
use native.Mathlib.Decide.{dec_lt}
use native.Mathlib.Nat.{le-add_right}
use native.Mathlib.Omega.{arith}
use lib.Dec.{leb, ltb}
use borrow.Author.Tests.{ltb-true, le-leb, lt-ltb}
use Rattle.ground.proofs.Tests.{and-true}
use Rattle.figures.specs.Figures.{quarter, turned_by, placed}
use Rattle.figures.proofs.Placed.{guarded}

add-sub : (x p : ℕ) → x + p - x ≡ p
add-sub x p = omega arith

back : (n k : ℕ) → k < n → n - 1 - (n - 1 - k) ≡ k
back n k h = omega arith

less_one : (n k : ℕ) → k < n → n - 1 - k < n
less_one n k h = omega arith

-- four turns are none
turned-four : (w h x y : ℕ) (f : ℕ → ℕ → Bool) (a b : ℕ) → turned_by 4 w h x y f a b ≡ turned_by 0 w h x y f a b
turned-four w h x y f a b =
    guarded ((leb x a && leb y b) && (ltb (a - x) w && ltb (b - y) h)) _ (f (a - x) (b - y))
    (λ e. let i = and-true (ltb (a - x) w) (ltb (b - y) h) (and-true (leb x a && leb y b) _ e).1 in
    (λ d. f (back w (a - x) (ltb-true (a - x) w i.0) d) (back h (b - y) (ltb-true (b - y) h i.1) d)))

pub placed-four : (r w h x y : ℕ) (f : ℕ → ℕ → Bool) (a b : ℕ) → placed (r + 4) w h x y f a b ≡ placed r w h x y f a b
placed-four r w h x y f a b = ap (λ (n : ℕ). turned_by n w h x y f a b) (let e : (r + 4) % 4 ≡ r % 4 = omega arith in e)

-- one turn more, of the count that `placed` makes
placed-next : (r w h x y : ℕ) (f : ℕ → ℕ → Bool) (a b : ℕ) → placed (r + 1) w h x y f a b ≡ turned_by (suc (r % 4)) w h x y f a b
placed-next r w h x y f a b = at (dec_lt (r % 4) 3)
  where
    at : Dec (r % 4 < 3) → turned_by ((r + 1) % 4) w h x y f a b ≡ turned_by (suc (r % 4)) w h x y f a b
    at (yes t) = ap (λ (n : ℕ). turned_by n w h x y f a b) (let e : (r + 1) % 4 ≡ suc (r % 4) = omega arith in e)
    at (no t) =
        ap (λ (n : ℕ). turned_by n w h x y f a b) (let e : (r + 1) % 4 ≡ 0 = omega arith in e) ∙ sym (turned-four w h x y f a b)
        ∙ ap (λ (n : ℕ). turned_by (suc n) w h x y f a b) (let e : 3 ≡ r % 4 = omega arith in e)

-- a figure turned once, and then r times, is turned r + 1 times
pub placed-quarter : (r w h x y : ℕ) (f : ℕ → ℕ → Bool) (a b : ℕ) → placed (r + 1) w h x y f a b ≡ placed r h w x y (quarter h f) a b
placed-quarter r w h x y f a b = placed-next r w h x y f a b

-- the width and the height of a box of w by h dots that is turned r times
abbrev pub wide_by : ℕ → ℕ → ℕ → ℕ
wide_by zero w h = w
wide_by (suc r) w h = wide_by r h w

abbrev pub high_by : ℕ → ℕ → ℕ → ℕ
high_by zero w h = h
high_by (suc r) w h = high_by r h w

turned-next : (r w h x y : ℕ) (f : ℕ → ℕ → Bool) (p q : ℕ) → p < wide_by r w h → q < high_by r w h
    → turned_by (suc r) w h x y f (x + (high_by r w h - 1 - q)) (y + p) ≡ turned_by r w h x y f (x + p) (y + q)
turned-next zero w h x y f p q s t =
    rw (
      le-leb x (x + p) (le-add_right x p),
      le-leb y (y + q) (le-add_right y q),
      le-leb x (x + (h - 1 - q)) (le-add_right x (h - 1 - q)),
      le-leb y (y + p) (le-add_right y p),
      add-sub x p,
      add-sub y q,
      add-sub y p,
      add-sub x (h - 1 - q),
      lt-ltb p w s,
      lt-ltb q h t,
      lt-ltb (h - 1 - q) h (less_one h q t),
      back h q t,
    )
turned-next (suc r) w h x y f p q s t = turned-next r h w x y (quarter h f) p q s t

-- the dot p, q of the turned box stands, when the box is turned once more, where the height less one less q, and p say
pub placed-once-more : (r w h x y : ℕ) (f : ℕ → ℕ → Bool) (p q : ℕ) → p < wide_by (r % 4) w h → q < high_by (r % 4) w h
    → placed (r + 1) w h x y f (x + (high_by (r % 4) w h - 1 - q)) (y + p) ≡ placed r w h x y f (x + p) (y + q)
placed-once-more r w h x y f p q s t =
    placed-next r w h x y f (x + (high_by (r % 4) w h - 1 - q)) (y + p) ∙ turned-next (r % 4) w h x y f p q s t
