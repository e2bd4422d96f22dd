-- What is drawn when the loops and the calls are done: runs of columns, a row, a line.
-- Assumes nothing.
use mathlib.Core.Path.{◌≡◌, sym, ap, ◌∙◌}
use mathlib.Core.Bool.{Bool, ◌&&◌, ◌||◌, and-false, or_comm}
use mathlib.Core.Logic.{◌⊎◌, inl, inr}
use mathlib.Core.List.{List}
use Prim.Native.Nat.{ℕ, ◌+◌, ◌-◌, ◌*◌, ◌/◌, ◌≤◌, ◌<◌, min, max}
use native.Mathlib.Omega.{arith}
use lib.Dec.{leb, ltb}
use borrow.Author.Tests.{leb-true, ltb-true, le-leb, lt-leb, lt-ltb, le-ltb}
use Rattle.ground.proofs.Tests.{and-true}
use Rattle.dots.specs.declared.Ink.{Ink}
use Rattle.dots.specs.Dots.{rows, box, drawn, cut}
use Rattle.dots.proofs.Pages.{drawn-ext}
use Rattle.dots.proofs.Shapes.{same_test, in-box, box_in, cut-box}
use Rattle.slanted_lines.specs.declared.Line.{Line}
use Rattle.slanted_lines.specs.declared.Span.{Span}
use Rattle.slanted_lines.specs.Code.{farthest, Drawable, Rooted, MiddleRows, Ordered, Crossed, CrossedFooted, Disc, near_line, strip, foot, run, runs, part}
use Rattle.slanted_lines.proofs.Parts.{part-is, part_ext, then-beside, then-below}
use Rattle.slanted_lines.specs.Slanted.{squared}
use Rattle.slanted_lines.proofs.Past.{near-below, near-above}
use Rattle.slanted_lines.proofs.Middle.{near-middle}
use Rattle.slanted_lines.proofs.Ends.{near-three}

-- ---- runs
-- a run of columns, from `from` up to `to`
pub run-drawn : (ink : Ink) (s : Span) (y from to start : ℕ) (p q : List ℕ) → start ≡ max from s.from
    → q ≡ drawn ink (cut to (y + 1) (box start y s.to (y + 1))) p → q ≡ drawn ink (part from y to (y + 1) (run s)) p
run-drawn ink s y from to start p q es e =
    e ∙ drawn-ext ink _ _ p (λ x v i j. cut-box to (y + 1) start y s.to (y + 1) x v ∙ same_test _ _
    (λ h. let w = in-box start y (min s.to to) (min (y + 1) (y + 1)) x v h in
    rw (box_in from y to (y + 1) x v (omega arith), le-leb s.from x (omega arith), lt-ltb x s.to (omega arith)))
    (λ h. let k = and-true (box from y to (y + 1) x v) (run s x v) h in
    let w = in-box from y to (y + 1) x v k.0 in
    let g = and-true (leb s.from x) (ltb x s.to) k.1 in
    let m = leb-true s.from x g.0 in
    let n = ltb-true x s.to g.1 in
    box_in start y (min s.to to) (min (y + 1) (y + 1)) x v (omega arith)))

-- three runs, in five parts of the row
module _ (s t u : Span) (x y : ℕ) where
  in-first : s.from ≤ x → x < s.to → run s x y ≡ runs s t u x y
  in-first h k = rw (le-leb s.from x h, lt-ltb x s.to k)

  in-second : s.to ≤ x → t.from ≤ x → x < t.to → run t x y ≡ runs s t u x y
  in-second h i k = rw (le-leb t.from x i, lt-ltb x t.to k, le-ltb x s.to h, and-false (leb s.from x))

  in-third : (x < s.from) ⊎ (s.to ≤ x) → (x < t.from) ⊎ (t.to ≤ x) → run u x y ≡ runs s t u x y
  in-third (inl h) (inl k) = rw (lt-leb s.from x h, lt-leb t.from x k)
  in-third (inl h) (inr k) = rw (lt-leb s.from x h, le-ltb x t.to k, and-false (leb t.from x))
  in-third (inr h) (inl k) = rw (le-ltb x s.to h, and-false (leb s.from x), lt-leb t.from x k)
  in-third (inr h) (inr k) = rw (le-ltb x s.to h, and-false (leb s.from x), le-ltb x t.to k, and-false (leb t.from x))

pub runs-drawn : (ink : Ink) (s t u : Span) (y right next end : ℕ) (p p1 p2 p3 p4 q : List ℕ) → Ordered s t right → next ≡ max s.to t.from
    → end ≡ max s.to t.to → p1 ≡ drawn ink (part 0 y s.from (y + 1) (run u)) p → p2 ≡ drawn ink (part s.from y s.to (y + 1) (run s)) p1
    → p3 ≡ drawn ink (part s.to y next (y + 1) (run u)) p2 → p4 ≡ drawn ink (part next y end (y + 1) (run t)) p3
    → q ≡ drawn ink (part end y right (y + 1) (run u)) p4 → q ≡ drawn ink (part 0 y right (y + 1) (runs s t u)) p
runs-drawn ink s t u y right next end p p1 p2 p3 p4 q O en ee d1 d2 d3 d4 d5 =
    then-beside ink all p p4 q 0 end right y (y + 1) (omega arith) (omega arith)
    (then-beside ink all p p3 p4 0 next end y (y + 1) (omega arith) (omega arith)
    (then-beside ink all p p2 p3 0 s.to next y (y + 1) (omega arith) (omega arith)
    (then-beside ink all p p1 p2 0 s.from s.to y (y + 1) (omega arith) (omega arith)
    (part_ext ink (run u) p p1 all 0 y s.from (y + 1) d1 (λ x v w. in-third s t u x v (inl (omega arith)) (inl (omega arith))))
    (part_ext ink (run s) p1 p2 all s.from y s.to (y + 1) d2 (λ x v w. in-first s t u x v (omega arith) (omega arith))))
    (part_ext ink (run u) p2 p3 all s.to y next (y + 1) d3 (λ x v w. in-third s t u x v (inr (omega arith)) (inl (omega arith)))))
    (part_ext ink (run t) p3 p4 all next y end (y + 1) d4 (λ x v w. in-second s t u x v (omega arith) (omega arith) (omega arith))))
    (part_ext ink (run u) p4 q all end y right (y + 1) d5 (λ x v w. in-third s t u x v (inr (omega arith)) (inr (omega arith))))
  where
    all : ℕ → ℕ → Bool
    all = runs s t u

-- ---- a row
module _ (ink : Ink) (l : Line) (r y right : ℕ) (p q : List ℕ) (R : Rooted l r) (cut_off : right ≤ 608) where
  -- between the ends
  pub middle-row : (s : Span) → Crossed r l y s → 2 * l.b + l.c < 2 * y → 2 * y + l.c < 2 * l.e
      → q ≡ drawn ink (part 0 y right (y + 1) (run s)) p → q ≡ drawn ink (part 0 y right (y + 1) (near_line l)) p
  middle-row s C h k e =
      part_ext ink (run s) p q (near_line l) 0 y right (y + 1) e (λ x v w. let u : v ≡ y = omega (arith, w.top, w.bottom) in
      rw u (sym (C.columns x (omega arith)) ∙ sym (near-middle l.a l.b l.c l.d l.e x y (y - l.b) (l.e - y) r (inl (omega arith, omega arith))
      (omega arith) (omega arith) R.is-root)))

  -- beside an end, whichever disc starts first
  pub end_row : (s t u : Span) → Disc l.c l.a l.b y right s → Disc l.c l.d l.e y right t → CrossedFooted r l y u
      → q ≡ drawn ink (part 0 y right (y + 1) (runs s t u)) p → q ≡ drawn ink (part 0 y right (y + 1) (near_line l)) p
  end_row s t u S T U e =
      part_ext ink (runs s t u) p q (near_line l) 0 y right (y + 1) e (λ x v w. let z : v ≡ y = omega (arith, w.top, w.bottom) in
      rw z (sym (near-three l r x y R.is-root ∙ three x w.right)))
    where
      three : (x : ℕ) → x < right
          → ((leb (4 * squared x y l.a l.b) (l.c * l.c) || leb (4 * squared x y l.d l.e) (l.c * l.c)) || (strip r l x y && foot l x y)) ≡ runs s t u x y
      three x h = λ i. (S.columns x h i || T.columns x h i) || U.columns x (omega arith) i

  pub turned-row : (s t u : Span) → Disc l.c l.a l.b y right s → Disc l.c l.d l.e y right t → CrossedFooted r l y u
      → q ≡ drawn ink (part 0 y right (y + 1) (runs t s u)) p → q ≡ drawn ink (part 0 y right (y + 1) (near_line l)) p
  turned-row s t u S T U e =
      end_row s t u S T U (part_ext ink (runs t s u) p q (runs s t u) 0 y right (y + 1) e (λ x v w. ap (λ (b : Bool). b || run u x v) (or_comm (run t x v) (run s x v))))

-- ---- the rows of a line, cut at width and length: those beside the upper end, the middle ones, and those beside the lower end
pub record Blocks (l : Line) (top middle last bottom : ℕ) : Type 0 where
  pub first : top ≤ middle
  pub second : middle ≤ last
  pub third : last ≤ bottom
  pub fits : bottom ≤ farthest + 1
  pub inner : MiddleRows l middle last

first_block : (b h reach bottom : ℕ) → bottom ≡ max (b - h) reach → b - h ≤ min (b + h + 1) bottom
first_block b h reach bottom eb = omega arith

last_block : (m n bottom : ℕ) → max (min m bottom) (min n bottom) ≤ bottom
last_block m n bottom = omega arith

bottom-fits : (b e h length : ℕ) → b ≤ 8191 → e ≤ 8191 → h ≤ 40 → max (b - h) (min (e + h + 1) length) ≤ farthest + 1
bottom-fits b e h length i j k = omega arith

inner_block : (b c e bottom y : ℕ) → min (b + c / 2 + 1) bottom ≤ y → y < max (min (b + c / 2 + 1) bottom) (min (e - c / 2) bottom)
    → (2 * b + c < 2 * y) × (2 * y + c < 2 * e)
inner_block b c e bottom y h k = (omega arith, omega arith)

le-greatest : (m n : ℕ) → m ≤ max m n
le-greatest m n = omega arith

pub blocks : (l : Line) (length top reach bottom middle before last : ℕ) → Drawable l → top ≡ l.b - l.c / 2 → reach ≡ min (l.e + l.c / 2 + 1) length
    → bottom ≡ max top reach → middle ≡ min (l.b + l.c / 2 + 1) bottom → before ≡ min (l.e - l.c / 2) bottom → last ≡ max middle before
    → Blocks l top middle last bottom
blocks l length top reach bottom middle before last D et er eb em ef el = record {
  first = rw (et, em) (first_block l.b (l.c / 2) reach bottom (rw et at eb));
  second = rw el (le-greatest middle before);
  third = rw (el, em, ef) (last_block (l.b + l.c / 2 + 1) (l.e - l.c / 2) bottom);
  fits = rw (eb, et, er) (bottom-fits l.b l.e (l.c / 2) length D.b-fits D.e-fits (omega (arith, D.c-fits)));
  inner = record { inside = λ y h k. inner_block l.b l.c l.e bottom y (rw em at h) (rw (el, em, ef) at k) };
}

pub line-done : (ink : Ink) (l : Line) (right width length top middle last bottom : ℕ) (p p1 p2 q : List ℕ) → Drawable l → right ≡ min width 608
    → top ≡ l.b - l.c / 2 → bottom ≡ max top (min (l.e + l.c / 2 + 1) (min length (rows p))) → Blocks l top middle last bottom
    → p1 ≡ drawn ink (part 0 top right middle (near_line l)) p → p2 ≡ drawn ink (part 0 middle right last (near_line l)) p1
    → q ≡ drawn ink (part 0 last right bottom (near_line l)) p2 → q ≡ drawn ink (cut width length (near_line l)) p
line-done ink l right width length top middle last bottom p p1 p2 q D er et eb B d1 d2 d3 =
    part-is ink (near_line l) p q 0 top right bottom (cut width length (near_line l)) all
    (λ x v s t w i. rw (lt-ltb x width (omega arith), lt-ltb v length (omega arith)) i)
    (λ x v s t i. let z = and-true (ltb x width && ltb v length) (near_line l x v) i in
    let w = and-true (ltb x width) (ltb v length) z.0 in
    let a = near-above l.a l.b l.c l.d l.e x v z.1 in
    let b = near-below l.a l.b l.c l.d l.e x v z.1 in
    let c = ltb-true x width w.0 in
    let d = ltb-true v length w.1 in
    let f = D.downward in
    (omega arith, z.1))
  where
    all : q ≡ drawn ink (part 0 top right bottom (near_line l)) p
    all =
        then-below ink (near_line l) p p2 q 0 right top last bottom (omega arith) B.third
        (then-below ink (near_line l) p p1 p2 0 right top middle last B.first B.second d1 d2) d3
