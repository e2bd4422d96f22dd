-- Bitmaps: edges of cells, runs of equal dots, rows drawn run by run and bitmaps row by row.
-- Assumes nothing.
use mathlib.Core.Path.{◌≡◌, sym, ap, ◌∙◌}
use mathlib.Core.Bool.{Bool, true, false, ◌&&◌, and-false}
use mathlib.Core.Logic.{◌⊎◌, inl, inr}
use mathlib.Core.List.{List}
use Prim.Native.Nat.{ℕ, ◌+◌, ◌-◌, ◌*◌, ◌/◌, ◌%◌, ◌^◌, ◌≤◌, ◌<◌, min}
use native.Mathlib.Nat.{add-mul, one-mul, mul-zero, mul-le-mul, mul-le-mul_right, zero-div, div-lt_iff_lt-mul, le-div_iff_mul-le}
use native.Mathlib.Decide.{dec_lt, ℕ_discrete}
use native.Mathlib.Omega.{arith}
use lib.Dec.{leb}
use lib.ListN.{length, get_or, get_or-eq_default}
use borrow.Author.Tests.{leb-true, le-leb}
use Rattle.dots.specs.Dots.{box}
use Rattle.dots.proofs.Shapes.{In, same-box, in-box, box_in, not-in-box, join-test}
use Rattle.ground.proofs.Tests.{and-true}
use Rattle.figures.specs.Figures.{bit_row, bitmap, row_of, scaled, shifted}
use Rattle.bitmaps.specs.Run.{Run}
use Rattle.figures.proofs.Placed.{Joins, guard}

-- ---- edges, capped at the greatest number there is
pub edge_none : (most d g : ℕ) → d ≤ most → d ≡ min most (d + g * 0)
edge_none most d g h = let z : g * 0 ≡ 0 = mul-zero g in rw z (let e : d ≡ min most (d + 0) = omega arith in e)

pub edge-over : (most d g m : ℕ) → (m ≡ 0 → ⊥) → d ≤ most → (most - d) / m < g → most ≡ min most (d + g * m)
edge-over most d g m n h k = omega (arith, (div-lt_iff_lt-mul {x = most - d} {y = g} (let z : 0 < m = omega arith in z)).0 k)

pub edge-under : (most d g m : ℕ) → (m ≡ 0 → ⊥) → g ≤ (most - d) / m → g * m ≤ most - d
edge-under most d g m n k = (le-div_iff_mul-le {x = g} {y = most - d} (let z : 0 < m = omega arith in z)).0 k

pub small_product : (g m : ℕ) → g < 4294967296 → m < 4294967296 → g * m < 18446744073709551616
small_product g m h k = omega (arith, mul-le-mul {n₁ = g} {m₁ = m} {n₂ = 4294967295} {m₂ = 4294967295} (omega arith) (omega arith))

-- ---- a dot past the end of the bytes
pub no-dot : (bytes : List ℕ) (at g : ℕ) → length bytes ≤ at + g / 8 → bit_row bytes at g ≡ false
no-dot bytes at g h = rw (get_or-eq_default bytes 0 h, zero-div (2 ^ (7 - g % 8)))

-- a byte whose place is capped is the byte whose place is not
pub capped-byte : (bytes : List ℕ) (s at most : ℕ) → length bytes ≤ most → s ≡ min most at → get_or bytes s 0 ≡ get_or bytes at 0
capped-byte bytes s at most h e = by (dec_lt at most)
  where
    by : Dec (at < most) → get_or bytes s 0 ≡ get_or bytes at 0
    by (yes t) = ap (λ (n : ℕ). get_or bytes n 0) (omega arith)
    by (no t) = get_or-eq_default bytes 0 (omega arith) ∙ sym (get_or-eq_default bytes 0 (omega arith))

-- a row whose start is capped reads as the row whose start is not
pub capped-row : (bytes : List ℕ) (s at most : ℕ) → length bytes ≤ most → s ≡ min most at → (g : ℕ) → bit_row bytes s g ≡ bit_row bytes at g
capped-row bytes s at most h e g = by (dec_lt at most)
  where
    by : Dec (at < most) → bit_row bytes s g ≡ bit_row bytes at g
    by (yes t) = ap (λ (n : ℕ). bit_row bytes n g) (omega arith)
    by (no t) = no-dot bytes s g (omega arith) ∙ sym (no-dot bytes at g (omega arith))

-- ---- runs
-- the dots of the cells g up to e are from g * m up to e * m
in_cells : (g e m u : ℕ) → g * m ≤ u → u < e * m → (g ≤ u / m) × (u / m < e)
in_cells g e m u h k = by (ℕ_discrete m 0)
  where
    by : Dec (m ≡ 0) → (g ≤ u / m) × (u / m < e)
    by (yes z) = absurd (none (ap (λ (n : ℕ). e * n) z ∙ mul-zero e))
      where
        none : e * m ≡ 0 → ⊥
        none q = omega arith
    by (no n) =
        let pos : 0 < m = omega arith in
        ((le-div_iff_mul-le {x = g} {y = u} pos).1 h, (div-lt_iff_lt-mul {x = u} {y = e} pos).1 k)

-- a row up to dot g, and the run from there to e
row-joins : (row : ℕ → Bool) (g e w m v0 v1 u v : ℕ) → Run row g w e
    → Joins (row_of row g m v0 v1 u v) (row g && box (g * m) v0 (e * m) v1 u v) (row_of row e m v0 v1 u v)
row-joins row g e w m v0 v1 u v R =
    join-test (row_of row g m v0 v1 u v) (row g && box (g * m) v0 (e * m) v1 u v) (row_of row e m v0 v1 u v)
    (λ t. let h = and-true (box 0 v0 (g * m) v1 u v) (row (u / m)) t in
    let i = in-box 0 v0 (g * m) v1 u v h.0 in
    rw (box_in 0 v0 (e * m) v1 u v (omega (arith, order))) h.1)
    (λ t. let h = and-true (row g) (box (g * m) v0 (e * m) v1 u v) t in
    let i = in-box (g * m) v0 (e * m) v1 u v h.1 in
    rw (box_in 0 v0 (e * m) v1 u v (omega arith)) (same i.left i.right ∙ h.0))
    (λ t. let h = and-true (box 0 v0 (e * m) v1 u v) (row (u / m)) t in
    split (in-box 0 v0 (e * m) v1 u v h.0) h.1 (dec_lt u (g * m)))
    (λ t s. let h = and-true (box 0 v0 (g * m) v1 u v) (row (u / m)) t in
    let i = in-box 0 v0 (g * m) v1 u v h.0 in
    let k = and-true (row g) (box (g * m) v0 (e * m) v1 u v) s in
    let j = in-box (g * m) v0 (e * m) v1 u v k.1 in omega arith)
  where
    order : g * m ≤ e * m
    order = mul-le-mul_right m (let k : g ≤ e = omega (arith, R.more) in k)

    same : g * m ≤ u → u < e * m → row (u / m) ≡ row g
    same i j = let k = in_cells g e m u i j in R.same (u / m) k.0 k.1

    split : In 0 v0 (e * m) v1 u v → row (u / m) ≡ true → Dec (u < g * m)
        → (row_of row g m v0 v1 u v ≡ true) ⊎ ((row g && box (g * m) v0 (e * m) v1 u v) ≡ true)
    split i t (yes s) = inl (rw (box_in 0 v0 (g * m) v1 u v (omega arith)) t)
    split i t (no s) =
        let at : row g ≡ true = sym (same (omega arith) i.right) ∙ t in
        inr (rw (at, box_in (g * m) v0 (e * m) v1 u v (omega arith)))

shifted_none : (d : ℕ) (f : ℕ → ℕ → Bool) → ((u v : ℕ) → f u v ≡ false) → (u v : ℕ) → shifted d f u v ≡ false
shifted_none d f h u v = rw (h (u - d) v) (and-false (leb d u))

row-none : (row : ℕ → Bool) (m v0 v1 u v : ℕ) → row_of row 0 m v0 v1 u v ≡ false
row-none row m v0 v1 u v = rw (not-in-box 0 v0 (0 * m) v1 u v (λ h. omega arith))

pub row-start : (row : ℕ → Bool) (d m v0 v1 u v : ℕ) → shifted d (row_of row 0 m v0 v1) u v ≡ false
row-start row d m v0 v1 u v = shifted_none d (row_of row 0 m v0 v1) (row-none row m v0 v1) u v

-- a run of a figure further to the right, with edges that are capped
shifted-run : (d g e m v0 v1 s0 s1 most u v : ℕ) (on : Bool) → u < most → s0 ≡ min most (d + g * m) → s1 ≡ min most (d + e * m)
    → (leb d u && (on && box (g * m) v0 (e * m) v1 (u - d) v)) ≡ (on && box s0 v0 s1 v1 u v)
shifted-run d g e m v0 v1 s0 s1 most u v false h e0 e1 = and-false (leb d u)
shifted-run d g e m v0 v1 s0 s1 most u v true h e0 e1 =
    same-box s0 v0 s1 v1 u v (leb d u && box (g * m) v0 (e * m) v1 (u - d) v)
    (λ t. let k = and-true (leb d u) (box (g * m) v0 (e * m) v1 (u - d) v) t in
    let i = in-box (g * m) v0 (e * m) v1 (u - d) v k.1 in omega (arith, leb-true d u k.0))
    (λ i. rw (le-leb d u (omega arith), box_in (g * m) v0 (e * m) v1 (u - d) v (omega arith)))

-- a run that is on, with its edges as the code has them
pub on-run : (on : Bool) (s0 s1 t0 t1 v0 v1 u v : ℕ) → on ≡ true → s0 ≡ t0 → s1 ≡ t1 → box s0 v0 s1 v1 u v ≡ (on && box t0 v0 t1 v1 u v)
on-run on s0 s1 t0 t1 v0 v1 u v o e0 e1 = rw (o, e0, e1)

-- the next run of a row, as the code has it
pub row_next : (row : ℕ → Bool) (on : Bool) (d g e w m v0 v1 s0 s1 most u v : ℕ) → Run row g w e → on ≡ row g → u < most
    → s0 ≡ min most (d + g * m) → s1 ≡ min most (d + e * m)
    → Joins (shifted d (row_of row g m v0 v1) u v) (on && box s0 v0 s1 v1 u v) (shifted d (row_of row e m v0 v1) u v)
row_next row on d g e w m v0 v1 s0 s1 most u v R o h e0 e1 =
    rw (o, ← shifted-run d g e m v0 v1 s0 s1 most u v (row g) h e0 e1)
    (guard (leb d u) _ _ _ (λ i. row-joins row g e w m v0 v1 (u - d) v R))

-- ---- bitmaps
pub next-times : (g m : ℕ) → (g + 1) * m ≡ g * m + m
next-times g m = add-mul g 1 m ∙ ap (λ (n : ℕ). g * m + n) (one-mul m)

-- the rows of a bitmap above g, and row g
bitmap-joins : (pic : ℕ → ℕ → Bool) (w g hm vm u v : ℕ)
    → Joins (scaled w g hm vm pic u v) (row_of (λ n. pic n g) w hm (g * vm) ((g + 1) * vm) u v) (scaled w (g + 1) hm vm pic u v)
bitmap-joins pic w g hm vm u v =
    join-test (scaled w g hm vm pic u v) (row_of (λ n. pic n g) w hm (g * vm) ((g + 1) * vm) u v) (scaled w (g + 1) hm vm pic u v)
    (λ e. let h = and-true (box 0 0 (w * hm) (g * vm) u v) (pic (u / hm) (v / vm)) e in
    let i = in-box 0 0 (w * hm) (g * vm) u v h.0 in
    rw (box_in 0 0 (w * hm) ((g + 1) * vm) u v (omega (arith, next-times g vm))) h.1)
    (λ e. let h = and-true (box 0 (g * vm) (w * hm) ((g + 1) * vm) u v) (pic (u / hm) g) e in
    let i = in-box 0 (g * vm) (w * hm) ((g + 1) * vm) u v h.0 in
    rw (box_in 0 0 (w * hm) ((g + 1) * vm) u v (omega arith)) (ap (pic (u / hm)) (cell i.top i.bottom) ∙ h.1))
    (λ e. let h = and-true (box 0 0 (w * hm) ((g + 1) * vm) u v) (pic (u / hm) (v / vm)) e in
    split (in-box 0 0 (w * hm) ((g + 1) * vm) u v h.0) h.1 (dec_lt v (g * vm)))
    (λ e f. let h = and-true (box 0 0 (w * hm) (g * vm) u v) (pic (u / hm) (v / vm)) e in
    let i = in-box 0 0 (w * hm) (g * vm) u v h.0 in
    let k = and-true (box 0 (g * vm) (w * hm) ((g + 1) * vm) u v) (pic (u / hm) g) f in
    let j = in-box 0 (g * vm) (w * hm) ((g + 1) * vm) u v k.0 in omega arith)
  where
    cell : g * vm ≤ v → v < (g + 1) * vm → v / vm ≡ g
    cell h k = let i = in_cells g (g + 1) vm v h k in omega (arith, i.0, i.1)

    split : In 0 0 (w * hm) ((g + 1) * vm) u v → pic (u / hm) (v / vm) ≡ true → Dec (v < g * vm)
        → (scaled w g hm vm pic u v ≡ true) ⊎ (row_of (λ n. pic n g) w hm (g * vm) ((g + 1) * vm) u v ≡ true)
    split i t (yes s) = inl (rw (box_in 0 0 (w * hm) (g * vm) u v (omega arith)) t)
    split i t (no s) =
        inr (rw (box_in 0 (g * vm) (w * hm) ((g + 1) * vm) u v (omega arith)) (ap (pic (u / hm)) (sym (cell (omega arith) i.bottom)) ∙ t))

-- a row whose start and edges are capped
capped-rows : (bytes : List ℕ) (s at most w hm v0 v1 t0 t1 u v : ℕ) → length bytes ≤ most → v < most → s ≡ min most at → t0 ≡ min most v0 → t1 ≡ min most v1
    → row_of (bit_row bytes s) w hm t0 t1 u v ≡ row_of (bit_row bytes at) w hm v0 v1 u v
capped-rows bytes s at most w hm v0 v1 t0 t1 u v h k e e0 e1 =
    (λ i. edges i && capped-row bytes s at most h e (u / hm) i)
  where
    edges : box 0 t0 (w * hm) t1 u v ≡ box 0 v0 (w * hm) v1 u v
    edges =
        same-box 0 v0 (w * hm) v1 u v (box 0 t0 (w * hm) t1 u v)
        (λ b. let i = in-box 0 t0 (w * hm) t1 u v b in omega arith) (λ i. box_in 0 t0 (w * hm) t1 u v (omega arith))

-- the next row of a bitmap, as the code has it
pub bitmap-next : (bytes : List ℕ) (stride d w g hm vm s t0 t1 most u v : ℕ) → length bytes ≤ most → v < most → s ≡ min most (0 + g * stride)
    → t0 ≡ min most (0 + g * vm) → t1 ≡ min most (0 + (g + 1) * vm)
    → Joins (shifted d (scaled w g hm vm (bitmap bytes stride)) u v) (shifted d (row_of (bit_row bytes s) w hm t0 t1) u v)
    (shifted d (scaled w (g + 1) hm vm (bitmap bytes stride)) u v)
bitmap-next bytes stride d w g hm vm s t0 t1 most u v h k e e0 e1 =
    guard (leb d u) _ _ _ (λ i.
    rw (capped-rows bytes s (g * stride) most w hm (g * vm) ((g + 1) * vm) t0 t1 (u - d) v h k (omega arith) (omega arith) (omega arith))
    (bitmap-joins (bitmap bytes stride) w g hm vm (u - d) v))

bitmap-none : (pic : ℕ → ℕ → Bool) (w hm vm u v : ℕ) → scaled w 0 hm vm pic u v ≡ false
bitmap-none pic w hm vm u v = rw (not-in-box 0 0 (w * hm) (0 * vm) u v (λ h. omega arith))

pub bitmap-start : (pic : ℕ → ℕ → Bool) (d w hm vm u v : ℕ) → shifted d (scaled w 0 hm vm pic) u v ≡ false
bitmap-start pic d w hm vm u v = shifted_none d (scaled w 0 hm vm pic) (bitmap-none pic w hm vm) u v
