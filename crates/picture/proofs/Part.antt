-- Parts of a picture: one byte of it, parts side by side, parts whose bytes agree.
-- Assumes nothing.
use mathlib.Core.Path.{◌≡◌, sym, ap, ◌∙◌}
use mathlib.Core.Bool.{Bool, true, false, not, ◌&&◌, ◌||◌}
use mathlib.Core.Logic.{◌⊎◌, inl, inr}
use mathlib.Core.List.{List}
use Prim.Native.Nat.{ℕ, ◌+◌, ◌-◌, ◌*◌, ◌/◌, ◌%◌, ◌≤◌, ◌<◌, min}
use native.Mathlib.Nat.{div-add-mod', mod-lt, div-eq_of_lt, mul-add-div_right, mul-le-mul_right, add-mul, one-mul}
use native.Mathlib.Decide.{dec_lt}
use native.Mathlib.Omega.{arith}
use lib.Dec.{leb, ltb}
use borrow.Author.Tests.{leb-true, ltb-true, le-leb, lt-ltb, not-true}
use Rattle.dots.specs.declared.Ink.TheVariants.{Black}
use Rattle.dots.specs.Dots.{drawn, box, bit_of, within}
use Rattle.eights.specs.Eights.{eights}
use Rattle.dots.proofs.Bits.{bit-of-byte}
use Rattle.eights.proofs.EightDots.{eights-says, says-eights}
use Rattle.dots.proofs.Pages.{Bytes, drawn-ext, drawn-off}
use Rattle.dots.proofs.Shapes.{In, in-box, box_in, same_test}
use Rattle.ground.proofs.Tests.{is_false, and-true}
use Rattle.picture.specs.declared.Spot.{Spot}
use Rattle.picture.specs.Steps.{dark_byte, index_at, part, Fits}
use Rattle.picture.proofs.Bits.{white-bit}
use Rattle.picture.proofs.Shape.{either-test, then-drawn}

-- ---- lines of n bytes: byte c of line v
pub lines-below : (v h n c : ℕ) → c < n → v < h → v * n + c < h * n
lines-below v h n c s t = omega (arith, s, mul-le-mul_right n (let k : v + 1 ≤ h = omega arith in k), add-mul v 1 n, one-mul n)

pub lines-under : (v h n c : ℕ) → v * n + c < h * n → v < h
lines-under v h n c s = at (dec_lt v h)
  where
    at : Dec (v < h) → v < h
    at (yes t) = t
    at (no t) = absurd (let w : ⊥ = omega (arith, s, mul-le-mul_right n (let k : h ≤ v = omega arith in k)) in w)

unique : (v c row col n : ℕ) → c < n → col < n → v * n + c ≡ row * n + col → (v ≡ row) × (c ≡ col)
unique v c row col n h k e =
    let z : 0 < n = omega arith in
    let d : v ≡ row = omega (arith, mul-add-div_right z v c, mul-add-div_right z row col, div-eq_of_lt h, div-eq_of_lt k, ap (λ (m : ℕ). m / n) e) in
    (d, omega (arith, e, ap (λ (m : ℕ). m * n) d))

-- ---- a part's test as facts
pub record InPart (p : Spot) (f : ℕ → ℕ) (lo hi a b : ℕ) : Type 0 where
  pub there : In p.x p.y p.right p.bottom a b
  pub from : lo ≤ index_at p a b
  pub to : index_at p a b < hi
  pub bit : bit_of (f (index_at p a b)) ((a - p.x) % 8) ≡ false

pub part_says : (p : Spot) (f : ℕ → ℕ) (lo hi a b : ℕ) → part p f lo hi a b ≡ true → InPart p f lo hi a b
unfolding part
part_says p f lo hi a b e =
    let h = and-true (box p.x p.y p.right p.bottom a b) _ e in
    let k = and-true (within lo hi (index_at p a b)) _ h.1 in
    let v = and-true (leb lo (index_at p a b)) _ k.0 in
    record {
      there = in-box p.x p.y p.right p.bottom a b h.0;
      from = leb-true _ _ v.0;
      to = ltb-true _ _ v.1;
      bit = not-true _ k.1;
    }

pub says-part : (p : Spot) (f : ℕ → ℕ) (lo hi a b : ℕ) → InPart p f lo hi a b → part p f lo hi a b ≡ true
unfolding part
says-part p f lo hi a b h =
    rw (
      box_in p.x p.y p.right p.bottom a b h.there,
      le-leb lo (index_at p a b) h.from,
      lt-ltb (index_at p a b) hi h.to,
      h.bit,
    )

-- the same dot in a part with other bounds, or with other bytes
moved : (p : Spot) (f : ℕ → ℕ) (lo hi lo' hi' a b : ℕ) → InPart p f lo hi a b → lo' ≤ index_at p a b → index_at p a b < hi' → part p f lo' hi' a b ≡ true
moved p f lo hi lo' hi' a b h from to = says-part p f lo' hi' a b (record { there = h.there; from = from; to = to; bit = h.bit })

other : (p : Spot) (f g : ℕ → ℕ) (lo hi a b : ℕ) → ((k : ℕ) → lo ≤ k → k < hi → g k ≡ f k) → part p f lo hi a b ≡ true → part p g lo hi a b ≡ true
other p f g lo hi a b e t =
    let h = part_says p f lo hi a b t in
    let same = e (index_at p a b) h.from h.to in
    says-part p g lo hi a b (record { there = h.there; from = h.from; to = h.to; bit = ap (λ (v : ℕ). bit_of v ((a - p.x) % 8)) same ∙ h.bit })

pub part-cong : (p : Spot) (f g : ℕ → ℕ) (lo hi a b : ℕ) → ((k : ℕ) → lo ≤ k → k < hi → f k ≡ g k) → part p f lo hi a b ≡ part p g lo hi a b
part-cong p f g lo hi a b e =
    same_test (part p f lo hi a b) (part p g lo hi a b) (other p f g lo hi a b (λ k s t. sym (e k s t))) (other p g f lo hi a b e)

part-nothing : (p : Spot) (f : ℕ → ℕ) (lo a b : ℕ) → part p f lo lo a b ≡ false
part-nothing p f lo a b = is_false (part p f lo lo a b) (λ e. let h = part_says p f lo lo a b e in omega (arith, h.from, h.to))

parts_join : (p : Spot) (f : ℕ → ℕ) (lo mid hi : ℕ) → lo ≤ mid → mid ≤ hi → (a b : ℕ)
    → part p f lo hi a b ≡ (part p f lo mid a b || part p f mid hi a b)
parts_join p f lo mid hi s t a b =
    either-test (part p f lo mid a b) (part p f mid hi a b) (part p f lo hi a b)
    (λ e. let h = part_says p f lo mid a b e in moved p f lo mid lo hi a b h h.from (omega (arith, h.to)))
    (λ e. let h = part_says p f mid hi a b e in moved p f mid hi lo hi a b h (omega (arith, h.from)) h.to)
    (λ e. split (part_says p f lo hi a b e) (dec_lt (index_at p a b) mid))
  where
    split : InPart p f lo hi a b → Dec (index_at p a b < mid) → (part p f lo mid a b ≡ true) ⊎ (part p f mid hi a b ≡ true)
    split h (yes z) = inl (moved p f lo hi lo mid a b h h.from z)
    split h (no z) = inr (moved p f lo hi mid hi a b h (omega arith) h.to)

-- ---- one byte, number q, of line row at place col
module _ (p : Spot) (q v row col : ℕ) (at : row * p.line + col ≡ q) (cl : col < p.line) (holds : p.right ≤ p.x + p.line * 8) where
  found : (f : ℕ → ℕ) (a b : ℕ) → InPart p f q (q + 1) a b → (b - p.y ≡ row) × ((a - p.x) / 8 ≡ col)
  found f a b h =
      let w = h.there in
      unique (b - p.y) ((a - p.x) / 8) row col p.line (omega (arith, w.right, w.left)) cl
      (let e : index_at p a b ≡ q = omega (arith, h.from, h.to) in e ∙ sym at)

  given-none : p.right ≤ p.x + col * 8 → (a b : ℕ) → part p (λ k. v) q (q + 1) a b ≡ false
  given-none w a b = is_false (part p (λ k. v) q (q + 1) a b) (λ e.
      let h = part_says p (λ k. v) q (q + 1) a b e in
      let i = h.there in
      omega (arith, (found (λ k. v) a b h).1, i.right, i.left))

  given-part : (x n : ℕ) → x ≡ p.x + col * 8 → n ≡ min 8 (p.right - x) → p.y + row < p.bottom
      → (a b : ℕ) → eights x (p.y + row) (p.y + row + 1) (dark_byte v n) a b ≡ part p (λ k. v) q (q + 1) a b
  given-part x n hx hn hr a b =
      same_test (eights x (p.y + row) (p.y + row + 1) (dark_byte v n) a b) (part p (λ k. v) q (q + 1) a b)
      (λ e. let h = eights-says x (p.y + row) (p.y + row + 1) (dark_byte v n) a b e in
      let w = h.there in
      let k = and-true (ltb (a - x) n) (not (bit_of v (a - x))) (sym (bit-of-byte (λ k. ltb k n && not (bit_of v k)) (a - x) (omega arith)) ∙ h.bit) in
      let s = ltb-true (a - x) n k.0 in
      let line : b - p.y ≡ row = omega arith in
      let place : (a - p.x) / 8 ≡ col = omega arith in
      let dot : a - x ≡ (a - p.x) % 8 = omega arith in
      let index : index_at p a b ≡ q = (λ i. line i * p.line + place i) ∙ at in
      says-part p (λ k. v) q (q + 1) a b
      (record {
        there = record { left = omega arith; right = omega arith; top = omega arith; bottom = omega arith };
        from = omega (arith, index);
        to = omega (arith, index);
        bit = let dark : bit_of v (a - x) ≡ false = not-true (bit_of v (a - x)) k.1 in rw dot at dark;
      }))
      (λ e. let h = part_says p (λ k. v) q (q + 1) a b e in
      let w = h.there in
      let f = found (λ k. v) a b h in
      let line = f.0 in
      let place = f.1 in
      let dot : a - x ≡ (a - p.x) % 8 = omega (arith, w.left) in
      let small : a - x < n = omega (arith, w.left, w.right) in
      let dark : bit_of v (a - x) ≡ false = rw dot h.bit in
      says-eights x (p.y + row) (p.y + row + 1) (dark_byte v n) a b
      (record {
        there = record { left = omega (arith, w.left); right = omega (arith, w.left); top = omega (arith, w.top); bottom = omega (arith, w.top) };
        bit = bit-of-byte (λ k. ltb k n && not (bit_of v k)) (a - x) (omega arith) ∙ rw (lt-ltb (a - x) n small, dark);
      }))

-- ---- what the code draws: a byte, a byte that has no dot, and runs
module _ (p : Spot) (q : ℕ) (page : List ℕ) (fits : Fits p q page) where
  line-of : q / p.line * p.line + q % p.line ≡ q
  line-of = div-add-mod' q p.line

  pub row-drawn : q < p.last → p.y + q / p.line < p.bottom
  row-drawn h =
      let v : q / p.line < p.bottom - p.y = lines-under (q / p.line) (p.bottom - p.y) p.line (q % p.line) (omega (arith, h, line-of, fits.ends)) in
      omega arith

  pub then-given : (v m n x y : ℕ) (r : List ℕ) → q < p.last → x ≡ p.x + q % p.line * 8 → y ≡ p.y + q / p.line
      → n ≡ min 8 (p.right - x) → m ≡ dark_byte v n → r ≡ drawn Black (eights x y (y + 1) m) page → r ≡ drawn Black (part p (λ k. v) q (q + 1)) page
  then-given v m n x y r h hx hy hn hm e =
      e ∙ (λ i. drawn Black (eights x (hy i) (hy i + 1) (hm i)) page)
      ∙ drawn-ext Black (eights x (p.y + q / p.line) (p.y + q / p.line + 1) (dark_byte v n)) (part p (λ k. v) q (q + 1)) page
      (λ a b s t. given-part p q v (q / p.line) (q % p.line) line-of (mod-lt q fits.some) fits.holds x n hx hn (row-drawn h) a b)

  pub nothing-given : (v : ℕ) → Bytes page → p.right ≤ p.x + q % p.line * 8 → page ≡ drawn Black (part p (λ k. v) q (q + 1)) page
  nothing-given v by w =
      sym (drawn-off Black (part p (λ k. v) q (q + 1)) page by
      (λ a b s t. given-none p q v (q / p.line) (q % p.line) line-of (mod-lt q fits.some) fits.holds w a b))

pub run-start : (p : Spot) (f : ℕ → ℕ) (lo : ℕ) (page : List ℕ) → Bytes page → page ≡ drawn Black (part p f lo lo) page
run-start p f lo page by = sym (drawn-off Black (part p f lo lo) page by (λ a b s t. part-nothing p f lo a b))

pub run_step : (p : Spot) (f : ℕ → ℕ) (lo mid hi : ℕ) (page q r : List ℕ) → lo ≤ mid → mid ≤ hi
    → q ≡ drawn Black (part p f lo mid) page → r ≡ drawn Black (part p f mid hi) q → r ≡ drawn Black (part p f lo hi) page
run_step p f lo mid hi page q r s t e d = then-drawn (part p f lo mid) (part p f mid hi) (part p f lo hi) page q r e d (parts_join p f lo mid hi s t)

-- a run of white bytes
pub run-white : (p : Spot) (lo hi v : ℕ) (page : List ℕ) → Bytes page → v ≡ 255 → page ≡ drawn Black (part p (λ k. v) lo hi) page
run-white p lo hi v page by e =
    sym (drawn-off Black (part p (λ k. v) lo hi) page by (λ a b s t. is_false (part p (λ k. v) lo hi a b) (λ z.
    let h = part_says p (λ k. v) lo hi a b z in
    let w : ◌≡◌ {A = Bool} true false = sym (white-bit ((a - p.x) % 8) (omega arith)) ∙ ap (λ (n : ℕ). bit_of n ((a - p.x) % 8)) (sym e) ∙ h.bit in
    let y : ◌≡◌ {A = ℕ} 0 1 = cc in omega arith)))

-- a run whose bytes from number k on are below the last row
pub run-done : (p : Spot) (f : ℕ → ℕ) (q k end : ℕ) (page r : List ℕ) → Fits p end page → q ≤ k → k ≤ end → min end p.last ≤ k
    → r ≡ drawn Black (part p f q k) page → r ≡ drawn Black (part p f q end) page
run-done p f q k end page r fits s t u e = e ∙ drawn-ext Black (part p f q k) (part p f q end) page (λ a b i j. at a b)
  where
    at : (a b : ℕ) → part p f q k a b ≡ part p f q end a b
    at a b =
        same_test (part p f q k a b) (part p f q end a b)
        (λ z. let h = part_says p f q k a b z in moved p f q k q end a b h h.from (omega (arith, h.to)))
        (λ z. let h = part_says p f q end a b z in
        let w = h.there in
        let n = lines-below (b - p.y) (p.bottom - p.y) p.line ((a - p.x) / 8) (omega (arith, w.left, w.right, fits.holds)) (omega (arith, w.top, w.bottom)) in
        moved p f q end q k a b h h.from (omega (arith, h.to, n, fits.ends)))
