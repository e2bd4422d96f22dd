-- The loops that sum the widths and draw the bars.
-- Assumes nothing.
use mathlib.Core.Path.{◌≡◌, refl, sym, ap, ◌∙◌}
use mathlib.Core.Bool.{Bool, true, false, cond, not, ◌&&◌, ◌||◌}
use mathlib.Core.List.{List, [], ◌∷◌, map}
use Prim.Native.Nat.{ℕ, zero, suc, ◌+◌, ◌*◌, ◌≤◌, ◌<◌}
use native.Mathlib.Nat.{le_of_suc-le-suc}
use native.Mathlib.Numerals.{add-one}
use native.Mathlib.Omega.{arith}
use borrow.Author.Tests.{lt-ltb, le-leb}
use lib.ListN.{length, get_or, take, drop, length-map, drop_of_length-le, get_or-eq_default}
use lib.Seq.{length-sets, length-take-le, drop-cons}
use Rattle.dots.specs.declared.Ink.TheVariants.{Black}
use Rattle.dots.specs.Dots.{within, box, drawn, cut}
use Rattle.dots.proofs.Pages.{Bytes, length-drawn}
use Rattle.dots.proofs.Shapes.{then-black, cut-ext}
use Rattle.figures.specs.Figures.{placed}
use Rattle.figures.proofs.Placed.{placed-or, placed-ext, as-placed, none-placed}
use Rattle.kinds.specs.declared.Kind.{Kind}
use Rattle.kinds.specs.Fit.{fit}
use Rattle.symbols.specs.Elements.{elements}
use Rattle.bars.specs.Drawing.{dots_of, widths, in_bar, bars}
use Rattle.code128.specs.Widths.{sum}
use Rattle.symbols.specs.Laid.{Put}
use Rattle.symbols.proofs.Lists.{written-front}

and-true-right : (a : Bool) → (a && true) ≡ a
and-true-right true = refl
and-true-right false = refl

-- ---- widths in dots

pub map_at : (f : ℕ → ℕ) (l : List ℕ) (k : ℕ) → k < length l → f (get_or l k 0) ≡ get_or (map f l) k 0
map_at f [] k h = absurd (omega arith)
map_at f (x ∷ l) zero h = refl
map_at f (x ∷ l) (suc k) h = map_at f l k (le_of_suc-le-suc h)

pub map-past : (f : ℕ → ℕ) (l : List ℕ) (k : ℕ) → length l ≤ k → 0 ≡ get_or (map f l) k 0
map-past f l k h = sym (get_or-eq_default (map f l) 0 (rw (length-map l f) h))

-- ---- the total width

pub record Adding (ws : List ℕ) (k total : ℕ) : Type 0 where
  pub below : k ≤ length ws
  pub small : total ≤ 65025 * k
  pub whole : total + sum (drop k ws) ≡ sum ws

pub adding-step : (ws : List ℕ) (n k total w : ℕ) → length ws ≡ n → k < n → Adding ws k total → w ≡ get_or ws k 0 → w ≤ 65025 → Adding ws (k + 1) (total + w)
unfolding sum
adding-step ws n k total w l i a e b =
    let h : k < length ws = omega arith in
    let more = rw (drop-cons ws k 0 h, ← e) at a.whole in
    record { below = omega arith; small = omega (arith, a.small); whole = ap (λ d. total + w + sum (drop d ws)) (add-one k) ∙ omega arith }

pub adding-done : (ws : List ℕ) (n k total : ℕ) → length ws ≡ n → n ≤ k → Adding ws k total → total ≡ sum ws
unfolding sum
adding-done ws n k total l i a =
    let h : length ws ≤ k = omega arith in
    let all = rw (drop_of_length-le ws h) at a.whole in
    omega arith

-- ---- the bars from element k on

-- element k, where it is a bar, and the bars behind it
bar-more : (ws : List ℕ) (bar : Bool) (k at u : ℕ) → k < length ws
    → ((bar && within at (at + get_or ws k 0) u) || in_bar (not bar) (at + get_or ws k 0) (drop (k + 1) ws) u) ≡ in_bar bar at (drop k ws) u
unfolding in_bar
bar-more ws bar k at u h =
    rw (drop-cons ws k 0 h) (ap (λ d. (bar && within at (at + get_or ws k 0) u) || in_bar (not bar) (at + get_or ws k 0) (drop d ws) u) (add-one k))

-- an element as `ink_part` draws it
pub stroke-drawn : (W L r w g x y at end : ℕ) (bar : Bool) (p q : List ℕ) → bar ≡ true
    → q ≡ drawn Black (cut W L (placed r w g x y (box at 0 end g))) p → q ≡ drawn Black (cut W L (placed r w g x y (λ u v. bar && within at end u))) p
stroke-drawn W L r w g x y at end bar p q e d = as-placed Black W L r w g x y _ _ p q d (λ u v m n. full u v n)
  where
    full : (u v : ℕ) → v < g → box at 0 end g u v ≡ (bar && within at end u)
    full u v n = rw (e, le-leb 0 v (omega arith), lt-ltb v g n) (and-true-right (within at end u))

pub space-drawn : (W L r w g x y at end : ℕ) (bar : Bool) (p : List ℕ) → Bytes p → bar ≡ false
    → p ≡ drawn Black (cut W L (placed r w g x y (λ u v. bar && within at end u))) p
space-drawn W L r w g x y at end bar p by e = none-placed Black W L r w g x y _ p by (λ u v m n. ap (λ t. t && within at end u) e)

module _ (W L x y r w g : ℕ) (ws p₀ : List ℕ) where
  -- what is left, on what is drawn, is the whole
  pub record Stroking (p : List ℕ) (bar : Bool) (at k : ℕ) : Type 0 where
    pub small : at ≤ 65025 * k
    pub long : length p ≡ length p₀
    pub bytes : Bytes p
    pub whole : drawn Black (cut W L (placed r w g x y (λ u v. in_bar bar at (drop k ws) u))) p ≡ drawn Black (cut W L (placed r w g x y (bars ws))) p₀

  pub stroking-step : (p q : List ℕ) (bar : Bool) (at k a : ℕ) → k < length ws → Bytes q → Stroking p bar at k → a ≡ get_or ws k 0 → a ≤ 65025
      → q ≡ drawn Black (cut W L (placed r w g x y (λ u v. bar && within at (at + a) u))) p → Stroking q (not bar) (at + a) (k + 1)
  stroking-step p q bar at k a h by s e i d =
      let rest : ℕ → ℕ → Bool = λ u v. in_bar (not bar) (at + a) (drop (k + 1) ws) u in
      let whole : ℕ → ℕ → Bool = λ u v. in_bar bar at (drop k ws) u in
      let one : ℕ → ℕ → Bool = λ u v. bar && within at (at + a) u in
      record {
        small = omega (arith, s.small);
        bytes = by;
        long = ap length d ∙ length-drawn Black _ p ∙ s.long;
        whole = then-black W L (placed r w g x y one) (placed r w g x y rest) p q _ d refl
            ∙ cut-ext Black W L _ (placed r w g x y whole) p
            (λ b c _ _ _ _. sym (placed-or r w g x y one rest b c) ∙ placed-ext r w g x y (λ u v. one u v || rest u v) whole (λ u v m n. more u) b c)
            ∙ s.whole;
      }
    where
      more : (u : ℕ) → ((bar && within at (at + a) u) || in_bar (not bar) (at + a) (drop (k + 1) ws) u) ≡ in_bar bar at (drop k ws) u
      more u = rw e (bar-more ws bar k at u h)

  pub stroking-done : (p : List ℕ) (bar : Bool) (at k : ℕ) → length ws ≤ k → Stroking p bar at k → p ≡ drawn Black (cut W L (placed r w g x y (bars ws))) p₀
  unfolding in_bar
  stroking-done p bar at k h s =
      let none = rw (drop_of_length-le ws h) at s.whole in
      none-placed Black W L r w g x y (λ u v. false) p s.bytes (λ u v m n. refl) ∙ none

-- ---- from the lent list to the page

-- the widths that stand there are those of the bars
pub widths-front : (kind : Kind) (e f n : ℕ) (s l m : List ℕ) → Put (elements kind s) 0 l m n → n ≤ 1299 → 1299 ≤ length l
    → map (dots_of kind e f) (take n m) ≡ widths kind e f s
unfolding widths
widths-front kind e f n s l m put h k = ap (map (dots_of kind e f)) (written-front (elements kind s) l m n put (omega (arith, put.next)))

pub strokes-drawn : (W L x y r g w n a b e f : ℕ) (kind : Kind) (s l m p q : List ℕ) → a ≡ e → b ≡ f → Put (elements kind s) 0 l m n → n ≤ 1299 → 1299 ≤ length l
    → w ≡ sum (map (dots_of kind a b) (take n m)) → q ≡ drawn Black (cut W L (placed r w g x y (bars (map (dots_of kind a b) (take n m))))) p
    → q ≡ drawn Black (cut W L (placed r (sum (widths kind e f s)) g x y (bars (widths kind e f s)))) p
strokes-drawn W L x y r g w n a b e f kind s l m p q ea eb put h k t d =
    let same : map (dots_of kind a b) (take n m) ≡ widths kind e f s =
    ap (λ i. map (dots_of kind i b) (take n m)) ea ∙ ap (λ i. map (dots_of kind e i) (take n m)) eb ∙ widths-front kind e f n s l m put h k in
    d ∙ ap (λ i. drawn Black (cut W L (placed r i g x y (bars (map (dots_of kind a b) (take n m))))) p) t
    ∙ ap (λ ws. drawn Black (cut W L (placed r (sum ws) g x y (bars ws))) p) same

-- unfit data has no elements, and so no bars
pub fit-or-none : (W L x y r g e f : ℕ) (kind : Kind) (s p q : List ℕ) (b : Bool) → fit kind s ≡ b → Bytes p
    → q ≡ drawn Black (cut W L (placed r (sum (widths kind e f s)) g x y (bars (widths kind e f s)))) p
    → q ≡ cond b (drawn Black (cut W L (placed r (sum (widths kind e f s)) g x y (bars (widths kind e f s)))) p) p
unfolding widths elements bars in_bar
fit-or-none W L x y r g e f kind s p q true h by d = d
fit-or-none W L x y r g e f kind s p q false h by d =
    d ∙ sym (none-placed Black W L r (sum (widths kind e f s)) g x y (bars (widths kind e f s)) p by (λ u v m n. none u v))
  where
    none : (u v : ℕ) → bars (widths kind e f s) u v ≡ false
    none u v = rw h

pub part_length : (xs l m : List ℕ) (n : ℕ) → Put xs 0 l m n → n ≤ 1299 → 1299 ≤ length l → n ≡ length (take n m)
part_length xs l m n p h k =
    let long : length m ≡ length l = ap length p.written ∙ length-sets l 0 xs in
    sym (length-take-le n m (omega arith))
